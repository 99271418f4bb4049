use Rattle.std.proofs.Common.{length}
use Rattle.pl_table.specs.Requests.Asking.{asked_by}
use Rattle.pl_table.proofs.Reached.{IsReached}
use Rattle.pl_table.proofs.tables.reach.listed_reach.Given as goal

abbrev pub invariant-loop-place : goal.invariant-loop-place
invariant-loop-place l = IsReached l.rows (asked_by l.asking) l.most l.reach.low l.reach.high l.rest

abbrev pub decreases-loop-place : goal.decreases-loop-place
decreases-loop-place l = length l.rest
