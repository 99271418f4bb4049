-- Writes one after the other use the room that they use together.
use Rattle.std.proofs.Common.{ℕ, ◌+◌, ◌≤◌, Result, Ok, Err, arith}
use Rattle.std.specs.Global.{Vec}
use Rattle.pl_block.specs.Spare.{spare, UsesSpare}

pub UsesSpare-then : {T E : Type 0} (result : Result T E) (old mid new : Vec ℕ) (front back n : ℕ) → spare old ≤ spare mid + front → front + back ≤ n → UsesSpare result mid new back → UsesSpare result old new n
UsesSpare-then (Ok x) old mid new front back n before all after = omega (arith, before, all, after)
UsesSpare-then (Err e) old mid new front back n before all after = omega (arith, before, all, after)
