-- The ranges of a database's limits.
use Rattle.std.specs.Prelude.{ℕ, ◌≤◌}

-- at least one entry, and 1 to 65536 chunks
abbrev pub AreLimits : ℕ → ℕ → Type 0
AreLimits audit chunks = (1 ≤ audit) × (1 ≤ chunks) × (chunks ≤ 65536)
