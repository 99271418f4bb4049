use Rattle.std.proofs.Common.{◌≡◌, length}
use Rattle.rows_database.proofs.versions.replay_block.Given as goal

-- the page keeps its length
abbrev pub invariant-loop-change : goal.invariant-loop-change
invariant-loop-change l = length l.bytes ≡ 8192
