-- The bounds of a table.
use Rattle.std.specs.Prelude.{ℕ}

-- the most principals of a table
abbrev pub most_principals : ℕ
most_principals = 64

-- the most rows of a table
abbrev pub most_rows : ℕ
most_rows = 256
