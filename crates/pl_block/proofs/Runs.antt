-- Bytes that are compared a run at a time.
use Rattle.std.proofs.Common.{◌≡◌, ◌∙◌, ◌≤◌, ◌<◌, ◌+◌, ◌-◌, ◌^◌, ◌%◌, ◌&&◌, ℕ, zero, suc, Bool, true, false, cond, eqb, List, [], ◌∷◌, ap, refl, sym, arith, drop, length, map, take, w8}
use Rattle.std.specs.Str.{bytes_eq}
use Rattle.std.proofs.lemmas.Bool.{eq-eqb, ne_eqb}
use Rattle.std.proofs.lemmas.List.{drop-drop, length-take-le}
use Rattle.std.proofs.lemmas.Simd.{length-zip2, mask_l-lt, mask_l-mod, tops_compared}
use native.Mathlib.Nat.{two-pow-succ}
use lib.Lanes.{mask_l, top, zip2}
use mir.Val.{bits, hbits}

-- whether all bits are set
abbrev all : List Bool → Bool
all [] = true
all (b ∷ bs) = b && all bs

-- their number is the greatest exactly if they are
all_set : (bs : List Bool) → all bs ≡ true → mask_l bs + 1 ≡ 2 ^ length bs
all_set [] e = refl
all_set (true ∷ bs) e = omega (arith, all_set bs e, two-pow-succ (length bs))
all_set (false ∷ bs) e = absurd cc

some_clear : (bs : List Bool) → all bs ≡ false → mask_l bs + 1 < 2 ^ length bs
some_clear [] e = absurd cc
some_clear (true ∷ bs) e = omega (arith, some_clear bs e, two-pow-succ (length bs))
some_clear (false ∷ bs) e = omega (arith, mask_l-lt bs, two-pow-succ (length bs))

greatest_by : (bs : List Bool) (is_all : Bool) → all bs ≡ is_all → length bs ≡ 32 → eqb (mask_l bs) 4294967295 ≡ is_all
greatest_by bs true e long =
    let set : mask_l bs + 1 ≡ 2 ^ 32 = all_set bs e ∙ ap (λ n. 2 ^ n) long in
    eq-eqb _ _ (omega (arith, set))
greatest_by bs false e long =
    let clear : mask_l bs + 1 < 2 ^ length bs = some_clear bs e in
    ne_eqb _ _ (λ is. omega (arith, clear, ap (λ n. 2 ^ n) long, is))

all_same : (xs ys : List ℕ) → length xs ≡ length ys → all (zip2 eqb xs ys) ≡ bytes_eq xs ys
all_same [] [] e = refl
all_same [] (y ∷ ys) e = absurd (omega arith)
all_same (x ∷ xs) [] e = absurd (omega arith)
all_same (x ∷ xs) (y ∷ ys) e = ap (λ b. eqb x y && b) (all_same xs ys (omega arith))

-- what the comparison of two vectors of 32 bytes tells
pub same_run : (xs ys : List ℕ) → 32 ≤ length xs → 32 ≤ length ys
    → eqb (mask_l (map (top (hbits w8)) (zip2 (λ x y. cond (eqb x y) (2 ^ bits w8 - 1) 0) (take 32 xs) (take 32 ys))) % 2 ^ 64) 4294967295 ≡ bytes_eq (take 32 xs) (take 32 ys)
same_run xs ys long longer =
    let one : length (take 32 xs) ≡ 32 = length-take-le 32 xs long in
    let other : length (take 32 ys) ≡ 32 = length-take-le 32 ys longer in
    let bs = zip2 eqb (take 32 xs) (take 32 ys) in
    let wide : length bs ≡ 32 = length-zip2 eqb (take 32 xs) (take 32 ys) (one ∙ sym other) ∙ one in
    ap (λ (ms : List Bool). eqb (mask_l ms % 2 ^ 64) 4294967295) (tops_compared w8 eqb (take 32 xs) (take 32 ys))
    ∙ ap (λ n. eqb n 4294967295) (mask_l-mod bs 64 (omega (arith, wide)))
    ∙ greatest_by bs (all bs) refl wide
    ∙ all_same (take 32 xs) (take 32 ys) (one ∙ sym other)

and_assoc : (a b c : Bool) → (a && (b && c)) ≡ ((a && b) && c)
and_assoc true b c = refl
and_assoc false b c = refl

-- lists are the same if their first elements are, and those behind them
pub cut_same : (n : ℕ) (xs ys : List ℕ) → bytes_eq xs ys ≡ (bytes_eq (take n xs) (take n ys) && bytes_eq (drop n xs) (drop n ys))
cut_same zero xs ys = refl
cut_same (suc n) [] [] = refl
cut_same (suc n) [] (y ∷ ys) = refl
cut_same (suc n) (x ∷ xs) [] = refl
cut_same (suc n) (x ∷ xs) (y ∷ ys) = ap (λ b. eqb x y && b) (cut_same n xs ys) ∙ and_assoc (eqb x y) _ _

-- a run that is the same leaves the question to what is behind it
pub run_passed : (n k : ℕ) (xs ys : List ℕ) (whole : Bool) → bytes_eq (take 32 (drop n xs)) (take 32 (drop n ys)) ≡ true → bytes_eq (drop n xs) (drop n ys) ≡ whole
    → n + 32 ≡ k → bytes_eq (drop k xs) (drop k ys) ≡ whole
run_passed n k xs ys whole same so_far is =
    let behind = bytes_eq (drop 32 (drop n xs)) (drop 32 (drop n ys)) in
    let left : behind ≡ whole = sym (cut_same 32 (drop n xs) (drop n ys) ∙ ap (λ b. b && behind) same) ∙ so_far in
    rw (← is, ← drop-drop 32 n xs, ← drop-drop 32 n ys) left

-- what is the same from a place on is so from each later one
pub same_behind : (n k : ℕ) (xs ys : List ℕ) → bytes_eq (drop n xs) (drop n ys) ≡ true → n ≤ k → bytes_eq (drop k xs) (drop k ys) ≡ true
same_behind n k xs ys same le =
    let is : n + (k - n) ≡ k = omega arith in
    let both = cut_same (k - n) (drop n xs) (drop n ys) in
    rw (← is, ← drop-drop (k - n) n xs, ← drop-drop (k - n) n ys) (second _ _ (sym both ∙ same))
  where
    second : (a b : Bool) → (a && b) ≡ true → b ≡ true
    second true b e = e
    second false b e = absurd cc
