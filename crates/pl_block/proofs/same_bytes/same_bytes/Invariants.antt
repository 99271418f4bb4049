use Rattle.std.proofs.Common.{◌≡◌, ◌*◌, drop}
use Rattle.std.specs.Str.{bytes_eq}
use Rattle.pl_block.proofs.same_bytes.same_bytes.Given as goal

abbrev pub invariant-loop-run : goal.invariant-loop-run
invariant-loop-run l = bytes_eq (drop (l.run * 32) l.fn.one) (drop (l.run * 32) l.fn.other) ≡ bytes_eq l.fn.one l.fn.other
