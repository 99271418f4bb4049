use Rattle.std.proofs.Common.{◌≡◌, ◌-◌}
use Rattle.pl_block.specs.Reading.{records_at}
use Rattle.pl_block.proofs.Fronts.{with_front}
use Rattle.pl_block.proofs.reading.take_each.Given as goal

abbrev pub invariant-loop : goal.invariant-loop
invariant-loop l = with_front l.records.items (records_at (l.count - l.counter) l.rest) ≡ records_at l.count l.fn.rest
