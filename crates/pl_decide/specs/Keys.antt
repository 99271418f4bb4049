-- The key of a cached verdict: what the rows of a table look at in a request, but for its LSN.
use Rattle.std.specs.Prelude.{◌≡◌, ℕ, [], ◌∷◌, Option}
use Rattle.std.specs.Option.{option_map_or}
use Rattle.pl_table.specs.Requests.Asking.{Asked}
use Rattle.pl_decide.specs.declared.key.VerdictKey.{VerdictKey}
use Rattle.pl_decide.specs.declared.row_verdict.RowVerdict.{RowVerdict}

-- what is asked with a key, at an LSN or without one
abbrev pub asked_with : VerdictKey → Option ℕ → Asked
asked_with key lsn = record { principal = key.principal; role = key.role; op = key.op; partitions = option_map_or (λ partition. partition ∷ []) key.partition []; lsn = lsn }

-- the key is that of what is asked: with it, at the same LSN, the same is asked
abbrev pub IsKeyOf : VerdictKey → Asked → Type 0
IsKeyOf key a = asked_with key a.lsn ≡ a

-- a key, and what the rows say of the requests that have it, at some LSNs
abbrev pub CachedVerdict : Type 0
CachedVerdict = VerdictKey × RowVerdict
