use Rattle.std.proofs.Common.{◌≡◌, ℕ, ◌≤◌, nat_le, subst}
use Rattle.pl_table.specs.Requests.Asking.{Asked, asked_at, asked_in}
use Rattle.pl_table.specs.Tables.FirstMatch.{rows_allow}
use Rattle.pl_table.proofs.Reached.{reached-no_ends}
use Rattle.pl_table.proofs.tables.table.Table.reach.Goals as goal

pub returns-then-not-self-clause-exact : goal.returns-then-not-self-clause-exact
returns-then-not-self-clause-exact c =
    let all = reached-no_ends c.self.inside.rows.items (asked_in c.args.request.now) c.args.most c.self.inside.has_ends c.self.invariant.2 c.if-not-self.true (rw (← c.self.view_is) at c.requires.allowed) in
    rw (← c.self.view_is) all

pub reach_of-requires : goal.reach_of-requires
reach_of-requires c = record { allowed = rw c.asking.ensures.value c.requires.allowed }

pub returns-clause-exact : goal.returns-clause-exact
returns-clause-exact c = subst (λ (a : Asked). (lsn : ℕ) → lsn ≤ c.args.most → rows_allow c.args.self.now.rows (asked_at a lsn) ≡ nat_le lsn c.reach_of.result) c.asking.ensures.value c.reach_of.ensures.exact
