use Rattle.std.proofs.Common.{sym, ◌∙◌}
use Rattle.pl_table.specs.Requests.Asking.{asked_in}
use Rattle.pl_table.proofs.Ends.{are_alike, no_ends}
use Rattle.pl_table.proofs.tables.table.Table.lsns_alike.Goals as goal

pub returns-clause-alike : goal.returns-clause-alike
returns-clause-alike c =
    let alike = are_alike c.self.inside.rows.items (asked_in c.args.request.now) c.in_ok-lsn.lsn c.lsns_between_ends.result (sym (rw c.act.ensures.value at c.in_ok-lsn.ensures.value)) (rw c.deref.ensures.value at c.lsns_between_ends.ensures.apart) in
    rw (← c.self.view_is) alike

pub returns-then-not-self-clause-alike : goal.returns-then-not-self-clause-alike
returns-then-not-self-clause-alike c lsn from to =
    let alike = no_ends 1 c.self.inside.rows.items (asked_in c.args.request.now) lsn (sym c.self.invariant.2 ∙ c.if-not-self.true) in
    rw (← c.self.view_is) alike
