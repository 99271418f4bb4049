-- The row that is found speaks of the request, and none above it does.
use Rattle.std.proofs.Common.{◌≡◌, ℕ, suc, ◌+◌, ◌-◌, Bool, true, false, List, [], ◌∷◌, take, Option, Some, None, IfSome, IfNone, IsSomeAnd, IsTrue, All, refl, arith, if◌then◌else◌, slice_get}
use Rattle.std.specs.List.{AllByRecursion}
use Rattle.std.proofs.lemmas.List.Elements.{All-from_recursion}
use Rattle.std.proofs.lemmas.Option.{IfSome_then}
use Rattle.pl_table.specs.declared.tables.row.Row.{Row}
use Rattle.pl_table.specs.Requests.Asking.{Asked}
use Rattle.pl_table.specs.Tables.Row.{row_matches}
use Rattle.pl_table.specs.Tables.FirstMatch.{IsFirstMatch, first_match_from}

-- how many rows come before the one that is found, if the first of the list has the number k
abbrev FirstFrom : ℕ → List Row → Asked → ℕ × Bool → Type 0
FirstFrom k rows q found = (i : ℕ) × (found.0 ≡ k + i) × IsSomeAnd (slice_get rows i) (λ row. IsTrue (row_matches row q) × (row.allows ≡ found.1)) × AllByRecursion (λ row. row_matches row q ≡ false) (take i rows)

found_at : (k : ℕ) (row : Row) (rows : List Row) (q : Asked) (b : Bool) → row_matches row q ≡ b → IfSome (first_match_from (k + 1) rows q) (FirstFrom (k + 1) rows q) → IfSome (if b then Some (k, row.allows) else first_match_from (k + 1) rows q) (FirstFrom k (row ∷ rows) q)
found_at k row rows q true e later = (0, omega arith, (e, refl), tt)
found_at k row rows q false e later = IfSome_then (first_match_from (k + 1) rows q) later (λ found r. (suc r.0, omega arith, r.2, (e, r.3)))

first_from : (k : ℕ) (rows : List Row) (q : Asked) → IfSome (first_match_from k rows q) (FirstFrom k rows q)
first_from k [] q = tt
first_from k (row ∷ rows) q = found_at k row rows q (row_matches row q) refl (first_from (k + 1) rows q)

IfNone_then : {X : Type 0} (o : Option X) {P Q : Type 0} → IfNone o P → (P → Q) → IfNone o Q
IfNone_then None p f = f p
IfNone_then (Some x) p f = p

missed_at : (k : ℕ) (row : Row) (rows : List Row) (q : Asked) (b : Bool) → row_matches row q ≡ b → IfNone (first_match_from (k + 1) rows q) (AllByRecursion (λ r. row_matches r q ≡ false) rows) → IfNone (if b then Some (k, row.allows) else first_match_from (k + 1) rows q) (AllByRecursion (λ r. row_matches r q ≡ false) (row ∷ rows))
missed_at k row rows q true e later = tt
missed_at k row rows q false e later = IfNone_then (first_match_from (k + 1) rows q) later (λ none. (e, none))

none_from : (k : ℕ) (rows : List Row) (q : Asked) → IfNone (first_match_from k rows q) (AllByRecursion (λ row. row_matches row q ≡ false) rows)
none_from k [] q = tt
none_from k (row ∷ rows) q = missed_at k row rows q (row_matches row q) refl (none_from (k + 1) rows q)

-- the number of the row and what it says of the request are those of the first that matches
pub IsFirstMatch-first_match_from : (rows : List Row) (q : Asked) → IfSome (first_match_from 1 rows q) (IsFirstMatch rows q)
IsFirstMatch-first_match_from rows q =
    IfSome_then (first_match_from 1 rows q) (first_from 1 rows q) (λ found r.
    let at : found.0 - 1 ≡ r.0 = omega arith in
    record { number = omega arith; row = rw at r.2; above = rw at (All-from_recursion (λ row. row_matches row q ≡ false) (take r.0 rows) r.3) })

-- if no row is found none matches
pub All-none_found : (rows : List Row) (q : Asked) → IfNone (first_match_from 1 rows q) (All (λ row. row_matches row q ≡ false) rows)
All-none_found rows q = IfNone_then (first_match_from 1 rows q) (none_from 1 rows q) (All-from_recursion (λ row. row_matches row q ≡ false) rows)
