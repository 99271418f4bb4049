-- What is asked with one key: the same rows are about it, and at the LSNs between two it is matched as at both.
use Rattle.std.proofs.Common.{◌≡◌, ℕ, ◌+◌, ◌≤◌, Bool, true, false, ◌&&◌, List, [], ◌∷◌, Option, Some, None, option_map, refl, sym, ap, ◌∙◌, arith, if◌then◌else◌}
use Rattle.std.specs.Prelude.{IfSome, ◌↔◌}
use Rattle.std.proofs.lemmas.Bool.Decides.{nat_tests}
use Rattle.pl_table.specs.declared.tables.reach.LsnRange.{LsnRange}
use Rattle.pl_table.specs.declared.tables.row.Row.{Row}
use Rattle.pl_table.specs.Tables.Absent.{part_matches}
use Rattle.pl_table.specs.Requests.Asking.{Asked, asked_at}
use Rattle.pl_table.specs.Tables.Row.{through_matches, is_about, row_matches}
use Rattle.pl_table.specs.Tables.Reach.{IsAtOne, AreAlike}
use Rattle.pl_table.specs.Tables.FirstMatch.{first_match_from}
use Rattle.pl_decide.specs.declared.key.VerdictKey.{VerdictKey}
use Rattle.pl_decide.specs.Keys.{CachedVerdict, IsKeyOf, asked_with}
use Rattle.pl_decide.specs.Agreement.{IsAllowedThrough, IsFoundAt, IsOfRows, IsSpan}
use Rattle.pl_decide.specs.Laws.{OneKeyIsMatchedAlike, OneKeyOneVerdict}
use Rattle.pl_decide.proofs.Rows.{first_match-within}

pub matched-alike : OneKeyIsMatchedAlike
matched-alike key a b of_a of_b row = ap (is_about row) (sym of_a) ∙ ap (is_about row) of_b

pub one-verdict : OneKeyOneVerdict
one-verdict key a b of_a of_b lsn rows = ap (first_match_from 1 rows) (sym of_a ∙ ap (asked_with key) lsn ∙ of_b)

-- what is found with the key at an LSN, or without one
abbrev pub first_with : List Row → VerdictKey → Option ℕ → Option (ℕ × Bool)
first_with rows key lsn = first_match_from 1 rows (asked_with key lsn)

-- what is found, under the key at the LSNs, and how far the rows allow
abbrev pub under : VerdictKey → Option LsnRange → Option (ℕ × Bool) → Option ℕ → CachedVerdict
under key lsns found through = (key, record { found = found; lsns = lsns; allowed_through = through })

-- ---- LSNs of a range, or none

unnamed : (lsn : Option ℕ) → IsAtOne None lsn → lsn ≡ None
unnamed None at = refl
unnamed (Some own) at = absurd at

named : (range : LsnRange) (lsn : Option ℕ) → IsAtOne (Some range) lsn → (own : ℕ) × (lsn ≡ Some own) × (range.from ≤ own) × (own ≤ range.to)
named range None at = absurd at
named range (Some own) at = (own, refl, at.0, at.1)

pub span-at : (key : VerdictKey) (found : Option (ℕ × Bool)) (lsns : Option LsnRange) (through lsn : Option ℕ) → IsAtOne lsns lsn → IsSpan (under key lsns found through)
unfolding IsSpan
span-at key found None through lsn at = tt
span-at key found (Some range) through lsn at = let own = named range lsn at in omega (arith, own.2, own.3)

-- what is found for one that asks is found with its key at all LSNs at which it finds the same
found-of : (rows : List Row) (a : Asked) (key : VerdictKey) (found : Option (ℕ × Bool)) (lsns : Option LsnRange) → IsKeyOf key a → found ≡ first_match_from 1 rows a → IsAtOne lsns a.lsn → IfSome lsns (AreAlike rows a) → (lsn : Option ℕ) → IsAtOne lsns lsn → first_with rows key lsn ≡ found
found-of rows a key found None is value own alike lsn at =
    ap (first_with rows key) (unnamed lsn at ∙ sym (unnamed a.lsn own)) ∙ ap (first_match_from 1 rows) is ∙ sym value
found-of rows a key found (Some range) is value own alike lsn at =
    let it = named range lsn at in
    let here = named range a.lsn own in
    ap (first_with rows key) (it.1 ∙ sym (ap (option_map (λ o. it.0)) here.1))
    ∙ ap (λ (b : Asked). first_match_from 1 rows (asked_at b it.0)) is
    ∙ alike it.0 it.2 it.3
    ∙ sym value

pub of-rows : (rows : List Row) (a : Asked) (key : VerdictKey) (found : Option (ℕ × Bool)) (lsns : Option LsnRange) (through : Option ℕ) → IsKeyOf key a → found ≡ first_match_from 1 rows a → IsAtOne lsns a.lsn → IfSome lsns (AreAlike rows a) → IfSome through (IsAllowedThrough rows (asked_with key (Some 0))) → IsOfRows rows (under key lsns found through)
of-rows rows a key found lsns through is value own alike end = record { found = found-of rows a key found lsns is value own alike; end = end }

-- ---- between two LSNs

-- a row that matches alike at two LSNs matches alike between them
row_between : (allows : Bool) (through : Option ℕ) (low n high : ℕ) → low ≤ n → n ≤ high → part_matches (through_matches allows (Some high)) through ≡ part_matches (through_matches allows (Some low)) through → part_matches (through_matches allows (Some n)) through ≡ part_matches (through_matches allows (Some low)) through
row_between allows None low n high above below same = refl
row_between true (Some end) low n high above below same = grind (arith, nat_tests)
row_between false (Some end) low n high above below same = grind (arith, nat_tests)

about_between : (about at_low at_n at_high : Bool) → (at_high ≡ at_low → at_n ≡ at_low) → (about && at_high) ≡ (about && at_low) → (about && at_n) ≡ (about && at_low)
about_between false at_low at_n at_high here same = refl
about_between true at_low at_n at_high here same = here same

-- a row in front of others, of which none is found under its number
step : (k : ℕ) (allows at_low at_n at_high : Bool) (low n high : Option (ℕ × Bool)) → (at_high ≡ at_low → at_n ≡ at_low) → (high ≡ low → n ≡ low) → (low ≡ Some (k, allows) → ⊥) → (high ≡ Some (k, allows) → ⊥) → (if at_high then Some (k, allows) else high) ≡ (if at_low then Some (k, allows) else low) → (if at_n then Some (k, allows) else n) ≡ (if at_low then Some (k, allows) else low)
step k allows true at_n true low n high here after low_apart high_apart same = rw (here refl) refl
step k allows false at_n false low n high here after low_apart high_apart same = rw (here refl) (after same)
step k allows false at_n true low n high here after low_apart high_apart same = absurd (low_apart (sym same))
step k allows true at_n false low n high here after low_apart high_apart same = absurd (high_apart same)

apart : (k : ℕ) (allows : Bool) (rows : List Row) (a : Asked) → first_match_from (k + 1) rows a ≡ Some (k, allows) → ⊥
apart k allows rows a is = let within = first_match-within (k + 1) rows a k allows is in omega (arith, within.0)

-- what finds the same at two LSNs finds it between them
first_between : (k : ℕ) (rows : List Row) (key : VerdictKey) (low n high : ℕ) → low ≤ n → n ≤ high → first_match_from k rows (asked_with key (Some high)) ≡ first_match_from k rows (asked_with key (Some low)) → first_match_from k rows (asked_with key (Some n)) ≡ first_match_from k rows (asked_with key (Some low))
first_between k [] key low n high above below same = refl
first_between k (row ∷ rows) key low n high above below same =
    let at = λ (lsn : ℕ). asked_with key (Some lsn) in
    let matches = λ (lsn : ℕ). part_matches (through_matches row.allows (Some lsn)) row.through in
    let here = about_between (is_about row (at n)) (matches low) (matches n) (matches high) (row_between row.allows row.through low n high above below) in
    step k row.allows (row_matches row (at low)) (row_matches row (at n)) (row_matches row (at high)) (first_match_from (k + 1) rows (at low)) (first_match_from (k + 1) rows (at n)) (first_match_from (k + 1) rows (at high)) here (first_between (k + 1) rows key low n high above below) (apart k row.allows rows (at low)) (apart k row.allows rows (at high)) same

-- a verdict is that of the rows at all its LSNs if it is at the first and at the last of them
pub at-ends : (rows : List Row) (key : VerdictKey) (lsns : Option LsnRange) (found : Option (ℕ × Bool)) (through : Option ℕ) → IsSpan (under key lsns found through) → IsFoundAt rows (under key lsns found through) ↔ (first_with rows key (option_map (λ l. l.from) lsns) ≡ found) × (first_with rows key (option_map (λ l. l.to) lsns) ≡ found)
unfolding IsSpan
at-ends rows key None found through span = (λ of. (of None tt, of None tt), λ both lsn at. ap (first_with rows key) (unnamed lsn at) ∙ both.0)
at-ends rows key (Some range) found through span = (
  λ of. (of (Some range.from) (omega arith, span), of (Some range.to) (span, omega arith)),
  λ both lsn at.
      let it = named range lsn at in
      ap (first_with rows key) it.1 ∙ first_between 1 rows key range.from it.0 range.to it.2 it.3 (both.1 ∙ sym both.0) ∙ both.0,
)
