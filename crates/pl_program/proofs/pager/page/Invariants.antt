use Rattle.pl_conn.specs.Desks.{ArePassesOf, DesksCall}
use Rattle.pl_program.specs.Pager.{Pages}
use Rattle.pl_program.proofs.pager.page.Given as goal

-- the passes are of the desks, and came of the rounds at the databases before this one
abbrev pub invariant-loop-database : goal.invariant-loop-database
invariant-loop-database g l = ArePassesOf l.desks l.passes × Pages DesksCall l.server l.database l.fn.paging.passes l.passes
