use Rattle.pl_table.proofs.Tokens.{token_of-only, IsSome-token_of}
use Rattle.pl_table.proofs.tables.table.Table.token.Goals as goal

pub returns-clause-only : goal.returns-clause-only
returns-clause-only c =
    let only = token_of-only c.args.id c.self.inside.principals.items c.self.invariant.0.distinct in
    rw (c.token_in.ensures.value, c.deref.ensures.value, ← c.self.view_is) only

pub returns-clause-found : goal.returns-clause-found
returns-clause-found c =
    let found = IsSome-token_of c.args.id c.self.inside.principals.items in
    rw (c.token_in.ensures.value, c.deref.ensures.value, ← c.self.view_is) found
