-- The first row of a table that matches what is asked.
use Rattle.std.specs.Prelude.{ℕ, ◌≡◌, ◌+◌, ◌-◌, ◌<◌, Bool, false, IsTrue, List, [], ◌∷◌, take, slice_get, All, IsSomeAnd, Option, Some, None, if◌then◌else◌}
use Rattle.pl_table.specs.declared.tables.row.Row.{Row}
use Rattle.pl_table.specs.Requests.Asking.{Asked}
use Rattle.pl_table.specs.Tables.Row.{row_matches}

-- the first row that matches what is asked, if the first of the list has the number k: its number, and whether it allows
abbrev pub first_match_from : ℕ → List Row → Asked → Option (ℕ × Bool)
first_match_from k [] a = None
first_match_from k (row ∷ rows) a = if row_matches row a then Some (k, row.allows) else first_match_from (k + 1) rows a

-- what is found allows: there is a row, and it does
abbrev pub found_allows : Option (ℕ × Bool) → Bool
found_allows None = false
found_allows (Some found) = found.1

-- the rows allow what is asked: the first that matches it does
abbrev pub rows_allow : List Row → Asked → Bool
rows_allow rows a = found_allows (first_match_from 1 rows a)

-- the row with this number matches what is asked, and allows or denies so; no row above it matches
pub record IsFirstMatch (rows : List Row) (a : Asked) (found : ℕ × Bool) : Type 0 where
  pub number : 0 < found.0
  pub row : IsSomeAnd (slice_get rows (found.0 - 1)) (λ row. IsTrue (row_matches row a) × (row.allows ≡ found.1))
  pub above : All (λ row. row_matches row a ≡ false) (take (found.0 - 1) rows)
