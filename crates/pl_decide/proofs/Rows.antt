-- The rows of the table in the written order: none denies a request but the first that matches, if
-- it denies.
use Rattle.std.proofs.Common.{◌≡◌, ℕ, zero, suc, ◌+◌, ◌-◌, ◌<◌, ◌≤◌, Bool, true, false, not, ◌&&◌, eqb, List, [], ◌∷◌, ◌++◌, length, map, take, Option, Some, None, refl, sym, ap, ◌∙◌, inl, inr, arith}
use Rattle.std.specs.Prelude.{slice_get}
use Rattle.std.specs.List.{range_with_len}
use Rattle.std.specs.Option.{option_map_or}
use Rattle.std.proofs.lemmas.Bool.{cases_eq, cases_Bool, eq-eqb, ne_eqb, lt-ltb, and_right}
use Rattle.std.proofs.lemmas.List.{append_assoc}
use Rattle.pl_table.specs.declared.tables.row.Row.{Row}
use Rattle.pl_table.specs.declared.tables.verdict.Verdict.TheVariants as verdicts
use Rattle.pl_table.specs.declared.tables.verdict.Section.TheVariants as sections
use Rattle.pl_table.specs.Requests.Request.{Query}
use Rattle.pl_table.specs.Requests.Asking.{Asked, asked_in}
use Rattle.pl_table.specs.Tables.Row.{row_matches}
use Rattle.pl_table.specs.Tables.Table.{WrittenTable}
use Rattle.pl_table.specs.Tables.FirstMatch.{first_match_from}
use Rattle.pl_decide.specs.declared.rule.Rule.{Rule}
use Rattle.pl_decide.specs.declared.rule.Rule.TheVariants.{TableRow, NoRowMatches}
use Rattle.pl_decide.specs.declared.view.Epochs.{Epochs}
use Rattle.pl_decide.specs.declared.view.View.{View}
use Rattle.pl_decide.specs.Asked.{is_some_and, none_matches, denies_first}
use Rattle.pl_decide.specs.WrittenOrder.{section_b, section_c, first_denial}

-- ---- what the first match says of each row

-- the row that is found is this one, and denies
abbrev pub denies_at : ℕ → Option (ℕ × Bool) → Bool
denies_at number None = false
denies_at number (Some found) = eqb found.0 number && not found.1

-- nothing is found
abbrev pub is_unmatched : Option (ℕ × Bool) → Bool
is_unmatched None = true
is_unmatched (Some found) = false

-- a row that is found is one of the list
pub first_match-within : (k : ℕ) (rows : List Row) (a : Asked) (row : ℕ) (allows : Bool) → first_match_from k rows a ≡ Some (row, allows) → (k ≤ row) × (row < k + length rows)
first_match-within k [] a row allows e = absurd cc
first_match-within k (first ∷ rows) a row allows e =
    elim (cases_Bool (row_matches first a)) [
      | inl holds ↦
          let found = rw holds at e in
          let here : k ≡ row = ap (λ (o : Option (ℕ × Bool)). option_map_or (λ (p : ℕ × Bool). p.0) o 0) found in
          (omega arith, omega arith)
      | inr fails ↦ let later = first_match-within (k + 1) rows a row allows (rw fails at e) in (omega (arith, later.0), omega (arith, later.1))
    ]

-- no row above the first is found
none_above : (k number : ℕ) (rows : List Row) (a : Asked) → number < k → denies_at number (first_match_from k rows a) ≡ false
none_above k number [] a lt = refl
none_above k number (row ∷ rows) a lt =
    elim (cases_Bool (row_matches row a)) [
      | inl holds ↦ rw (holds, ne_eqb k number (λ same. omega arith)) refl
      | inr fails ↦ rw fails (none_above (k + 1) number rows a (omega arith))
    ]

and_true : (x : Bool) → (x && true) ≡ x
and_true true = refl
and_true false = refl

-- the row at an index is the one that is found, if none before it matches
found_at : (k i number : ℕ) (rows : List Row) (a : Asked) → number ≡ k + i → denies_at number (first_match_from k rows a) ≡ (is_some_and (slice_get rows i) (λ row. row_matches row a && not row.allows) && none_matches (take i rows) a)
found_at k i number [] a is = refl
found_at k zero number (row ∷ rows) a is =
    elim (cases_Bool (row_matches row a)) [
      | inl holds ↦ rw (holds, eq-eqb k number (omega arith)) (sym (and_true (not row.allows)))
      | inr fails ↦ rw fails (none_above (k + 1) number rows a (omega arith))
    ]
found_at k (suc i) number (row ∷ rows) a is =
    elim (cases_Bool (row_matches row a)) [
      | inl holds ↦ rw (holds, ne_eqb k number (λ same. omega arith)) (sym (and_right (is_some_and (slice_get rows i) (λ r. row_matches r a && not r.allows)) false refl))
      | inr fails ↦ rw fails (found_at (k + 1) i number rows a (omega arith))
    ]

-- the rule of a row denies if the row is the first match, and denies
pub denies_first-is : (number : ℕ) (rows : List Row) (a : Asked) → denies_first number rows a ≡ denies_at number (first_match_from 1 rows a)
denies_first-is zero rows a = sym (none_above 1 0 rows a (omega arith))
denies_first-is (suc n) rows a =
    let one : suc n - 1 ≡ n = omega arith in
    rw (lt-ltb 0 (suc n) (omega arith), one) (sym (found_at 1 n (suc n) rows a (omega arith)))

-- and the rule after them if there is none
pub none_matches-is : (k : ℕ) (rows : List Row) (a : Asked) → none_matches rows a ≡ is_unmatched (first_match_from k rows a)
none_matches-is k [] a = refl
none_matches-is k (row ∷ rows) a =
    elim (cases_Bool (row_matches row a)) [
      | inl holds ↦ rw holds refl
      | inr fails ↦ rw fails (none_matches-is (k + 1) rows a)
    ]

-- ---- section B

-- rows that do not deny are skipped
passed : (k n : ℕ) (rest : List Rule) (q : Query) (t : WrittenTable) (e : Epochs) (v : View) → ((row : ℕ) → denies_first row t.rows (asked_in q) ≡ false) → first_denial (map TableRow (range_with_len k n) ++ rest) q t e v ≡ first_denial rest q t e v
passed k zero rest q t e v none = refl
passed k (suc n) rest q t e v none = rw (none k) (passed (k + 1) n rest q t e v none)

-- the row that denies is come to
reached : (k n row : ℕ) (rest : List Rule) (q : Query) (t : WrittenTable) (e : Epochs) (v : View) → k ≤ row → row < k + n → ((other : ℕ) → denies_first other t.rows (asked_in q) ≡ eqb row other) → first_denial (map TableRow (range_with_len k n) ++ rest) q t e v ≡ verdicts.Denied sections.B row 0
reached k zero row rest q t e v low high each = absurd (omega arith)
reached k (suc n) row rest q t e v low high each =
    elim (cases_eq row k) [
      | inl same ↦ rw (each k, eq-eqb row k same) (ap (λ (r : ℕ). verdicts.Denied sections.B r 0) (sym same))
      | inr differ ↦
          let other : row ≡ k → ⊥ = differ in
          rw (each k, ne_eqb row k differ) (reached (k + 1) n row rest q t e v (omega arith) (omega arith) each)
    ]

-- sections B and C, with the rule after the rows at the head of section C
in_front : (q : Query) (t : WrittenTable) (e : Epochs) (v : View) → first_denial (section_b (length t.rows) ++ section_c) q t e v ≡ first_denial (map TableRow (range_with_len 1 (length t.rows)) ++ NoRowMatches ∷ section_c) q t e v
in_front q t e v = ap (λ (order : List Rule). first_denial order q t e v) (append_assoc (map TableRow (range_with_len 1 (length t.rows))) (NoRowMatches ∷ []) section_c)

-- if no row matches
pub rows-none : (q : Query) (t : WrittenTable) (e : Epochs) (v : View) → first_match_from 1 t.rows (asked_in q) ≡ None → first_denial (section_b (length t.rows) ++ section_c) q t e v ≡ verdicts.Denied sections.B 0 0
rows-none q t e v none =
    in_front q t e v
    ∙ passed 1 (length t.rows) (NoRowMatches ∷ section_c) q t e v (λ row. denies_first-is row t.rows (asked_in q) ∙ ap (denies_at row) none)
    ∙ rw (none_matches-is 1 t.rows (asked_in q) ∙ ap is_unmatched none) refl

-- if the first row that matches allows
pub rows-allow : (q : Query) (t : WrittenTable) (e : Epochs) (v : View) (row : ℕ) → first_match_from 1 t.rows (asked_in q) ≡ Some (row, true) → first_denial (section_b (length t.rows) ++ section_c) q t e v ≡ first_denial section_c q t e v
rows-allow q t e v row found =
    in_front q t e v
    ∙ passed 1 (length t.rows) (NoRowMatches ∷ section_c) q t e v (λ other. denies_first-is other t.rows (asked_in q) ∙ ap (denies_at other) found ∙ and_right (eqb row other) false refl)
    ∙ rw (none_matches-is 1 t.rows (asked_in q) ∙ ap is_unmatched found) refl

-- if it denies
pub rows-deny : (q : Query) (t : WrittenTable) (e : Epochs) (v : View) (row : ℕ) → first_match_from 1 t.rows (asked_in q) ≡ Some (row, false) → first_denial (section_b (length t.rows) ++ section_c) q t e v ≡ verdicts.Denied sections.B row 0
rows-deny q t e v row found =
    let within = first_match-within 1 t.rows (asked_in q) row false found in
    in_front q t e v
    ∙ reached 1 (length t.rows) row (NoRowMatches ∷ section_c) q t e v within.0 within.1 (λ other. denies_first-is other t.rows (asked_in q) ∙ ap (denies_at other) found ∙ and_true (eqb row other))
