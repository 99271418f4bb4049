use Rattle.std.proofs.Common.{◌≡◌, ◌&&◌, drop}
use Rattle.std.specs.Str.{bytes_eq}
use Rattle.pl_decide.proofs.decider.is_same_token.Given as goal

abbrev pub invariant-loop-place : goal.invariant-loop-place
invariant-loop-place l = (l.is_same && bytes_eq (drop l.place l.one) (drop l.place l.other)) ≡ bytes_eq l.one l.other
