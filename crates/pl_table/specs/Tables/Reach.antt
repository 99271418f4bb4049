-- How far rows allow what is asked, and at which LSNs they find the same row for it.
use Rattle.std.specs.Prelude.{ℕ, ◌≡◌, ◌≤◌, ◌<◌, Bool, true, false, nat_le, List, Option, Some, None, IfSome, is_some}
use Rattle.std.specs.List.{list_any}
use Rattle.pl_table.specs.declared.tables.reach.LsnRange.{LsnRange}
use Rattle.pl_table.specs.declared.tables.row.Row.{Row}
use Rattle.pl_table.specs.Tables.Absent.{part_matches}
use Rattle.pl_table.specs.Requests.Asking.{Asked, asked_at}
use Rattle.pl_table.specs.Tables.Row.{through_matches}
use Rattle.pl_table.specs.Tables.FirstMatch.{first_match_from}

-- some row ends at an LSN
abbrev pub any_ends : List Row → Bool
any_ends rows = list_any (λ row. is_some row.through) rows

-- a row that is about what is asked matches it at this LSN
abbrev pub matches_at : Row → ℕ → Bool
matches_at row lsn = part_matches (through_matches row.allows (Some lsn)) row.through

-- The row narrows the LSNs above low, up to high, that are still open: up to the new low it allows and
-- matches, above the new high it denies and matches, and between the two, which stay open, it does not
-- match.
pub record Narrows (row : Row) (low high new_low new_high : ℕ) : Type 0 where
  pub order : (low ≤ new_low) × (new_low ≤ new_high) × (new_high ≤ high)
  pub allowed : (lsn : ℕ) → low < lsn → lsn ≤ new_low → (row.allows ≡ true) × (matches_at row lsn ≡ true)
  pub denied : (lsn : ℕ) → new_high < lsn → lsn ≤ high → (row.allows ≡ false) × (matches_at row lsn ≡ true)
  pub between : (lsn : ℕ) → new_low < lsn → lsn ≤ new_high → matches_at row lsn ≡ false

-- no row ends between the two LSNs: each end is below both, or below neither
abbrev pub NoEndBetween : ℕ → ℕ → Option ℕ → Type 0
NoEndBetween lsn other through = IfSome through (λ end. nat_le other end ≡ nat_le lsn end)

-- both are there, and the LSN is one of the range, or neither is
abbrev pub IsAtOne : Option LsnRange → Option ℕ → Type 0
IsAtOne None None = Unit {0}
IsAtOne None (Some lsn) = ⊥
IsAtOne (Some range) None = ⊥
IsAtOne (Some range) (Some lsn) = (range.from ≤ lsn) × (lsn ≤ range.to)

-- asked at any LSN of the range, it finds the same first row
abbrev pub AreAlike : List Row → Asked → LsnRange → Type 0
AreAlike rows a range = (lsn : ℕ) → range.from ≤ lsn → lsn ≤ range.to
    → first_match_from 1 rows (asked_at a lsn) ≡ first_match_from 1 rows a
