-- Lists of one word, and of three.
use Rattle.std.proofs.Common.{ap, sym, ◌∙◌, arith, ◌≡◌, List, [], ◌∷◌, ◌<◌, ◌≤◌, length, slice_index_or}

-- a list of one is its first
pub single : {A : Type 0} (xs : List A) (a : A) → 1 ≤ length xs → length xs < 2
    → a ≡ slice_index_or xs 0 a → xs ≡ a ∷ []
single [] a some few is = absurd (omega arith)
single (x ∷ []) a some few is = ap (λ y. y ∷ []) (sym is)
single (x ∷ y ∷ ys) a some few is = absurd (omega arith)

-- a list of three is its first, its second and its third
pub triple : {A : Type 0} (xs : List A) (a b c : A) → 3 ≤ length xs → length xs < 4
    → a ≡ slice_index_or xs 0 a → b ≡ slice_index_or xs 1 b → c ≡ slice_index_or xs 2 c → xs ≡ a ∷ b ∷ c ∷ []
triple [] a b c some few first second third = absurd (omega arith)
triple (x ∷ []) a b c some few first second third = absurd (omega arith)
triple (x ∷ y ∷ []) a b c some few first second third = absurd (omega arith)
triple (x ∷ y ∷ z ∷ []) a b c some few first second third =
    ap (λ w. w ∷ y ∷ z ∷ []) (sym first) ∙ ap (λ w. a ∷ w ∷ z ∷ []) (sym second) ∙ ap (λ w. a ∷ b ∷ w ∷ []) (sym third)
triple (x ∷ y ∷ z ∷ w ∷ ws) a b c some few first second third = absurd (omega arith)
