-- Positions: the LSNs of a database that outlives its generations.
use Rattle.std.specs.Prelude.{ℕ, ◌+◌, ◌-◌, nat_lt, Option, Some, None, if◌then◌else◌}
use Rattle.pl_block.specs.Bounds.{last_lsn}

-- a number that is moved from one start to another, if it is not below the one and comes to lie at most at the last LSN
abbrev pub moved : ℕ → ℕ → ℕ → Option ℕ
moved start to n = if nat_lt n start then None else if nat_lt last_lsn (to + (n - start)) then None else Some (to + (n - start))

-- The position of an LSN, in a generation whose images are of the position base and this many blocks. A block of images has
-- none, but for the last one, which has the base.
abbrev pub position_at : ℕ → ℕ → ℕ → Option ℕ
position_at base images lsn = moved images base lsn

-- the LSN of a position: none below the base
abbrev pub lsn_at : ℕ → ℕ → ℕ → Option ℕ
lsn_at base images position = moved base images position
