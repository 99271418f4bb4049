use Rattle.pl_table.specs.Requests.Asking.{asked_by}
use Rattle.pl_table.proofs.Reached.{reached-no_ends}
use Rattle.pl_table.proofs.tables.table.Table.reach_of.Goals as goal

pub returns-then-not-self-clause-exact : goal.returns-then-not-self-clause-exact
returns-then-not-self-clause-exact c =
    let all = reached-no_ends c.self.inside.rows.items (asked_by c.args.asking.now) c.args.most c.self.inside.has_ends c.self.invariant.2 c.if-not-self.true (rw (← c.self.view_is) at c.requires.allowed) in
    rw (← c.self.view_is) all
