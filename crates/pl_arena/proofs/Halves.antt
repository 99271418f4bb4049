-- A row that is cut in two, written, and joined again.
use Rattle.std.proofs.Common.{◌≡◌, ℕ, ◌-◌, ◌<◌, List, ◌++◌, length, get_or, set, sym, ap, ◌∙◌, arith}
use Rattle.std.proofs.lemmas.List.{get_or_append_left, get_or-append_right, set-append_left, set-append_right}

module _ {X : Type 0} (row front back : List X) (mid : ℕ) (cut : row ≡ front ++ back) (len : length front ≡ mid) where
  none : 0 ≡ mid - mid
  none = omega arith

  pub front_item : (i : ℕ) (d : X) → i < mid → get_or front i d ≡ get_or row i d
  front_item i d lt = sym (ap (λ (l : List X). get_or l i d) cut ∙ get_or_append_left front back d i (omega (arith, lt, len)))

  pub back_item : (d : X) → get_or back 0 d ≡ get_or row mid d
  back_item d = ap (λ (k : ℕ). get_or back k d) none ∙ sym (ap (λ (l : List X). get_or l mid d) cut ∙ get_or-append_right front back mid mid d len (omega arith))

  pub front_written : (i : ℕ) (y : X) → i < mid → set front i y ++ back ≡ set row i y
  front_written i y lt = sym (ap (λ (l : List X). set l i y) cut ∙ set-append_left front back i y (omega (arith, lt, len)))

  pub back_written : (y : X) → front ++ set back 0 y ≡ set row mid y
  back_written y = ap (λ (k : ℕ). front ++ set back k y) none ∙ sym (ap (λ (l : List X). set l mid y) cut ∙ set-append_right front back mid mid y len (omega arith))
