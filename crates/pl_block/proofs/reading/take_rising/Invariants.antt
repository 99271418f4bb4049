use Rattle.std.proofs.Common.{◌≡◌, ◌-◌}
use Rattle.pl_block.specs.Reading.{rising_at}
use Rattle.pl_block.proofs.Fronts.{with_front}
use Rattle.pl_block.proofs.reading.take_rising.Given as goal

abbrev pub invariant-loop : goal.invariant-loop
invariant-loop l = with_front l.partitions.items (rising_at (l.count - l.counter) l.low l.rest) ≡ rising_at l.count 0 l.fn.rest
