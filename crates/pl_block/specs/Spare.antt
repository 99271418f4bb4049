-- The room that a vector has left.
use Rattle.std.specs.Prelude.{ℕ, ◌+◌, ◌-◌, ◌<◌, ◌≤◌, Result, MatchResult, vec_len, vec_capacity}
use Rattle.std.specs.Global.{Vec}

-- how many more bytes a vector takes with no allocation
abbrev pub spare : Vec ℕ → ℕ
spare v = vec_capacity v - vec_len v

-- a write takes at most this many bytes of the room, and fails only if they were lacking
abbrev pub UsesSpare : {T E : Type 0} → Result T E → Vec ℕ → Vec ℕ → ℕ → Type 0
UsesSpare result old new n = MatchResult result (λ _. spare old ≤ spare new + n) (λ _. spare old < n)
