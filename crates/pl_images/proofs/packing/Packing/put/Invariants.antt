use Rattle.std.proofs.Common.{◌≡◌, ◌+◌, ◌-◌, ◌≤◌, length, take, drop}
use Rattle.pl_images.specs.Packing.{Puts}
use Rattle.pl_images.proofs.packing.Packing.put.Given as goal

-- the bytes before the place were put, and the others are left
abbrev pub invariant-loop-alloc : goal.invariant-loop-alloc
invariant-loop-alloc l = record {
  began : l.fn.offset ≤ l.at;
  whole : l.at + length l.bytes ≡ l.fn.offset + length l.fn.bytes;
  rest : l.bytes ≡ drop (l.at - l.fn.offset) l.fn.bytes;
  puts : Puts l.fn.self l.self l.fn.page l.fn.offset (take (l.at - l.fn.offset) l.fn.bytes);
}

abbrev pub decreases-loop-alloc : goal.decreases-loop-alloc
decreases-loop-alloc l = length l.bytes
