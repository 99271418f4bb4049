use Rattle.std.proofs.Common.{◌≡◌, ◌<◌, ◌≤◌, eqb}
use Rattle.std.specs.List.{prefix_len}
use Rattle.pl_images.proofs.packing.filled_len.Given as goal

-- the zeros are some of the bytes before the place, and not all of them if the first byte is none
abbrev pub invariant-loop-place : goal.invariant-loop-place
invariant-loop-place l = record {
  few : l.zeros ≤ l.place;
  hole : l.zeros < 64;
  some : 0 < l.place → prefix_len (λ byte. eqb byte 0) l.bytes ≡ 0 → l.zeros < l.place;
}
