-- When cached verdicts are those of a table.
use Rattle.std.specs.Prelude.{◌≡◌, ℕ, ◌≤◌, ◌<◌, ◌^◌, nat_le, List, All, Option, Some, IfSome}
use Rattle.lru.specs.LruCache.{LruCache}
use Rattle.pl_table.specs.declared.tables.row.Row.{Row}
use Rattle.pl_table.specs.Tables.Table.{WrittenTable}
use Rattle.pl_table.specs.Requests.Asking.{Asked, asked_at}
use Rattle.pl_table.specs.Tables.FirstMatch.{first_match_from, rows_allow}
use Rattle.pl_table.specs.Tables.Reach.{IsAtOne}
use Rattle.pl_decide.specs.declared.key.VerdictKey.{VerdictKey}
use Rattle.pl_decide.specs.declared.row_verdict.RowVerdict.{RowVerdict}
use Rattle.pl_decide.specs.Keys.{CachedVerdict, asked_with}

-- the most verdicts that a decider keeps
abbrev pub most_cached : ℕ
most_cached = 1024

-- the rows allow what is asked at each LSN up to this one, and at none above it
abbrev pub IsAllowedThrough : List Row → Asked → ℕ → Type 0
IsAllowedThrough rows a end = (lsn : ℕ) → lsn < 2 ^ 64 → rows_allow rows (asked_at a lsn) ≡ nat_le lsn end

-- whatever is asked with the key at the LSNs, the first row that matches is the one found
abbrev pub IsFoundAt : List Row → CachedVerdict → Type 0
IsFoundAt rows e = (lsn : Option ℕ) → IsAtOne e.1.lsns lsn → first_match_from 1 rows (asked_with e.0 lsn) ≡ e.1.found

-- The verdict is that of the rows, whatever is asked with the key at the LSNs. If it has an end, that is how
-- far they allow what is asked with the key at an LSN.
pub record IsOfRows (rows : List Row) (e : CachedVerdict) : Type 0 where
  pub found : IsFoundAt rows e
  pub end : IfSome e.1.allowed_through (IsAllowedThrough rows (asked_with e.0 (Some 0)))

-- each cached verdict is that of the table's rows
unfoldable pub AgreesWith : List CachedVerdict → WrittenTable → Type 0
AgreesWith verdicts t = All (IsOfRows t.rows) verdicts

-- the LSNs of a verdict, if it has some, are those from one on, up to another
unfoldable pub IsSpan : CachedVerdict → Type 0
IsSpan e = IfSome e.1.lsns (λ lsns. lsns.from ≤ lsns.to)

-- what a decider keeps: verdicts, and not too many
pub record IsCache (cache : LruCache VerdictKey RowVerdict) : Type 0 where
  pub most : cache.cap ≡ most_cached
  pub each : All IsSpan cache.entries
