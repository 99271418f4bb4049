use Rattle.std.proofs.Common.{◌≡◌, ◌+◌, eqb, drop}
use Rattle.std.specs.List.{prefix_len}
use Rattle.pl_images.proofs.packing.blank_len.Given as goal

-- all bytes before the place are zeros
abbrev pub invariant-loop-place : goal.invariant-loop-place
invariant-loop-place l = l.place + prefix_len (λ byte. eqb byte 0) (drop l.place l.bytes) ≡ prefix_len (λ byte. eqb byte 0) l.bytes
