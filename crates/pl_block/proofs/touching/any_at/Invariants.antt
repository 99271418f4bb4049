use Rattle.std.proofs.Common.{◌≡◌, ◌-◌}
use Rattle.pl_block.specs.Touching.{any_at}
use Rattle.pl_block.proofs.touching.any_at.Given as goal

-- the partitions that are left are asked as all of them
abbrev pub invariant-loop : goal.invariant-loop
invariant-loop l = any_at l.lo l.hi (l.count - l.counter) l.rest ≡ any_at l.lo l.hi l.count l.fn.bytes
