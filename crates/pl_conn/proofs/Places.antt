-- The items of a list, one of which is replaced.
use Rattle.std.proofs.Common.{◌≡◌, ◌≢◌, ℕ, zero, suc, ◌<◌, List, [], ◌∷◌, ◌++◌, length, set, Some, refl, ap, arith}
use Rattle.std.specs.Prelude.{slice_get}

pub get-set_same : {X : Type 0} (xs : List X) (i : ℕ) (x : X) → i < length xs → slice_get (set xs i x) i ≡ Some x
get-set_same [] i x less = absurd (omega (arith, less))
get-set_same (y ∷ ys) zero x less = refl
get-set_same (y ∷ ys) (suc i) x less = get-set_same ys i x (omega (arith, less))

pub get-set_other : {X : Type 0} (xs : List X) (i j : ℕ) (x : X) → j ≢ i → slice_get (set xs i x) j ≡ slice_get xs j
get-set_other [] i j x away = refl
get-set_other (y ∷ ys) zero zero x away = absurd (away refl)
get-set_other (y ∷ ys) zero (suc j) x away = refl
get-set_other (y ∷ ys) (suc i) zero x away = refl
get-set_other (y ∷ ys) (suc i) (suc j) x away = get-set_other ys i j x (λ e. away (ap suc e))

-- the item at the seam of two lists
pub get-seam : {X : Type 0} (xs ys : List X) (x : X) → slice_get (xs ++ x ∷ ys) (length xs) ≡ Some x
get-seam [] ys x = refl
get-seam (y ∷ xs) ys x = get-seam xs ys x
