use Rattle.pl_table.specs.Requests.Asking.{asked_in}
use Rattle.pl_table.proofs.FirstMatch.{IsFirstMatch-first_match_from, All-none_found}
use Rattle.pl_table.proofs.tables.table.Table.first_match.Goals as goal

pub returns-clause-some : goal.returns-clause-some
returns-clause-some c =
    let some = IsFirstMatch-first_match_from c.self.inside.rows.items (asked_in c.args.request.now) in
    rw (c.first_in.ensures.value, c.deref.ensures.value, c.asking.ensures.value, ← c.self.view_is) some

pub returns-clause-none : goal.returns-clause-none
returns-clause-none c =
    let none = All-none_found c.self.inside.rows.items (asked_in c.args.request.now) in
    rw (c.first_in.ensures.value, c.deref.ensures.value, c.asking.ensures.value, ← c.self.view_is) none
