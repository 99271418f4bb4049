-- What is asked, at another LSN: which rows match it.
use Rattle.std.proofs.Common.{◌≡◌, ℕ, ◌+◌, ◌≤◌, Bool, true, false, ◌&&◌, ◌||◌, List, [], ◌∷◌, Option, Some, None, option_map, is_some, All, refl, ap, ◌∙◌, arith, if◌then◌else◌}
use Rattle.std.specs.List.{AllByRecursion}
use Rattle.std.proofs.lemmas.Bool.Decides.{nat_tests}
use Rattle.std.proofs.lemmas.List.Elements.{recursion_from_All}
use Rattle.pl_table.specs.declared.tables.reach.LsnRange.{LsnRange}
use Rattle.pl_table.specs.declared.tables.row.Row.{Row}
use Rattle.pl_table.specs.Tables.Absent.{part_matches}
use Rattle.pl_table.specs.Requests.Asking.{Asked, asked_at}
use Rattle.pl_table.specs.Tables.Row.{through_matches, is_about, row_matches}
use Rattle.pl_table.specs.Tables.FirstMatch.{first_match_from, found_allows, rows_allow}
use Rattle.pl_table.specs.Tables.Reach.{any_ends, matches_at, NoEndBetween, AreAlike}
use Rattle.pl_table.specs.Laws.{LowerLsnsAreAllowed}

-- if its LSN stays, it is as it is
same_lsn : (a : Asked) (n : ℕ) → option_map (λ own. n) a.lsn ≡ a.lsn → asked_at a n ≡ a
same_lsn a n e = ap (λ (l : Option ℕ). record { principal = a.principal; role = a.role; op = a.op; partitions = a.partitions; lsn = l }) e

pub own_asked : (a : Asked) (own : ℕ) → a.lsn ≡ Some own → asked_at a own ≡ a
own_asked a own e = same_lsn a own (rw e refl)

pub none_asked : (a : Asked) (n : ℕ) → a.lsn ≡ None → asked_at a n ≡ a
none_asked a n e = same_lsn a n (rw e refl)

-- a row that is about it matches by its end
pub row_at : (row : Row) (a : Asked) (own n : ℕ) → a.lsn ≡ Some own → row_matches row (asked_at a n) ≡ (is_about row a && matches_at row n)
row_at row a own n e = rw e refl

-- ---- lower LSNs

-- going down, a row that allows matches at more LSNs and one that denies at fewer
allow_down : (row : Row) (b : Bool) (through : Option ℕ) (lsn lower : ℕ) → lower ≤ lsn → b ≡ true → part_matches (through_matches b (Some lsn)) through ≡ true → part_matches (through_matches b (Some lower)) through ≡ true
allow_down row true None lsn lower le a m = refl
allow_down row true (Some end) lsn lower le a m = grind (arith, nat_tests)
allow_down row false through lsn lower le a m = cc

deny_up : (b : Bool) (through : Option ℕ) (lsn lower : ℕ) → lower ≤ lsn → b ≡ false → part_matches (through_matches b (Some lower)) through ≡ true → part_matches (through_matches b (Some lsn)) through ≡ true
deny_up true through lsn lower le a m = cc
deny_up false None lsn lower le a m = refl
deny_up false (Some end) lsn lower le a m = grind (arith, nat_tests)

-- one row before the others: whether it is about the request, allows, matches at the LSN and at the lower one
step_down : (k : ℕ) (about allows at_lsn at_lower : Bool) (high low : Option (ℕ × Bool)) → (allows ≡ true → at_lsn ≡ true → at_lower ≡ true) → (allows ≡ false → at_lower ≡ true → at_lsn ≡ true) → (found_allows high ≡ true → found_allows low ≡ true) → found_allows (if about && at_lsn then Some (k, allows) else high) ≡ true → found_allows (if about && at_lower then Some (k, allows) else low) ≡ true
step_down k false allows at_lsn at_lower high low up down later h = later h
step_down k true allows true true high low up down later h = h
step_down k true true true false high low up down later h = absurd (let clash = up refl refl in cc)
step_down k true false true false high low up down later h = cc
step_down k true true false true high low up down later h = refl
step_down k true false false true high low up down later h = absurd (let clash = down refl refl in cc)
step_down k true allows false false high low up down later h = later h

lower_from : (k : ℕ) (rows : List Row) (a : Asked) (own lsn lower : ℕ) → a.lsn ≡ Some own → lower ≤ lsn → found_allows (first_match_from k rows (asked_at a lsn)) ≡ true → found_allows (first_match_from k rows (asked_at a lower)) ≡ true
lower_from k [] a own lsn lower e le h = h
lower_from k (row ∷ rows) a own lsn lower e le h =
    let step = step_down k (is_about row a) row.allows (matches_at row lsn) (matches_at row lower) (first_match_from (k + 1) rows (asked_at a lsn)) (first_match_from (k + 1) rows (asked_at a lower)) (λ a m. allow_down row row.allows row.through lsn lower le a m) (λ a m. deny_up row.allows row.through lsn lower le a m) (lower_from (k + 1) rows a own lsn lower e le) in
    rw (row_at row a own lower e) (step (rw (row_at row a own lsn e) at h))

-- whether an LSN is named or not
pub with_number : (n : Option ℕ) (P : Type 0) → (n ≡ None → P) → ((own : ℕ) → n ≡ Some own → P) → P
with_number None P none some = none refl
with_number (Some own) P none some = some own refl

pub lower_lsns : LowerLsnsAreAllowed
lower_lsns rows a lsn lower le h =
    with_number a.lsn (rows_allow rows (asked_at a lower) ≡ true)
    (λ none. rw (none_asked a lower none) (rw (none_asked a lsn none) at h))
    (λ own some. lower_from 1 rows a own lsn lower some le h)

-- ---- no end between

apart_alike : (b : Bool) (through : Option ℕ) (own other : ℕ) → NoEndBetween own other through → part_matches (through_matches b (Some other)) through ≡ part_matches (through_matches b (Some own)) through
apart_alike b None own other e = refl
apart_alike true (Some end) own other e = e
apart_alike false (Some end) own other e = grind (arith, nat_tests)

alike_from : (k : ℕ) (rows : List Row) (a : Asked) (own other : ℕ) → a.lsn ≡ Some own → AllByRecursion (λ row. NoEndBetween own other row.through) rows → first_match_from k rows (asked_at a other) ≡ first_match_from k rows (asked_at a own)
alike_from k [] a own other e each = refl
alike_from k (row ∷ rows) a own other e each =
    rw (row_at row a own other e, row_at row a own own e, apart_alike row.allows row.through own other each.0, alike_from (k + 1) rows a own other e each.1) refl

-- if no row ends between the LSNs of a range, the request finds the same row at each
pub are_alike : (rows : List Row) (a : Asked) (own : ℕ) (range : LsnRange) → a.lsn ≡ Some own → ((other : ℕ) → range.from ≤ other → other ≤ range.to → All (λ row. NoEndBetween own other row.through) rows) → AreAlike rows a range
are_alike rows a own range e apart = λ lsn from to.
    alike_from 1 rows a own lsn e (recursion_from_All (λ row. NoEndBetween own lsn row.through) rows (apart lsn from to)) ∙ ap (first_match_from 1 rows) (own_asked a own e)

-- ---- no end at all

no_end_matches : (b : Bool) (through : Option ℕ) (number : Option ℕ) → is_some through ≡ false → part_matches (through_matches b number) through ≡ true
no_end_matches b None number e = refl
no_end_matches b (Some end) number e = cc

or_parts : (a b : Bool) → (a || b) ≡ false → (a ≡ false) × (b ≡ false)
or_parts true b h = cc
or_parts false b h = (refl, h)

-- if no row ends, the request finds the same row at each LSN
pub no_ends : (k : ℕ) (rows : List Row) (a : Asked) (n : ℕ) → any_ends rows ≡ false → first_match_from k rows (asked_at a n) ≡ first_match_from k rows a
no_ends k [] a n e = refl
no_ends k (row ∷ rows) a n e =
    let (here, more) = or_parts (is_some row.through) (any_ends rows) e in
    rw (no_end_matches row.allows row.through (asked_at a n).lsn here, no_end_matches row.allows row.through a.lsn here, no_ends (k + 1) rows a n more) refl
