use Rattle.std.proofs.Common.{length}
use Rattle.pl_table.specs.Requests.Asking.{asked_by}
use Rattle.pl_table.proofs.Listed.{IsLeft}
use Rattle.pl_table.proofs.tables.index.first_listed.Given as goal

abbrev pub invariant-loop-place : goal.invariant-loop-place
invariant-loop-place l = IsLeft l.rows (asked_by l.asking) l.left

abbrev pub decreases-loop-place : goal.decreases-loop-place
decreases-loop-place l = length l.left
