-- Bytes that wait in a room, and those that a read puts after them.
use Rattle.std.proofs.Common.{◌≡◌, ℕ, ◌+◌, ◌-◌, ◌≤◌, List, ◌++◌, arith, length, take, slice_range, sym, ap, ◌∙◌, le_refl, drop_at, length-take-le}
use Rattle.std.proofs.lemmas.Slice.{take-put_mid_below}
use borrow.Rule.Slice.PartMut.{put_mid, post_of}
use lib.Seq.{take-add, take-append-le, take-append_seam}

slice_range-put_mid : (a k n : ℕ) (xs ys : List ℕ) → a ≤ length xs → n ≤ length ys → slice_range (put_mid a k xs ys) a (a + n) ≡ take n ys
slice_range-put_mid a k n xs ys within fits =
    let same : (a + n) - a ≡ n = omega arith in
    let after = post_of a k xs in
    ap (take ((a + n) - a)) (drop_at (take a xs) (ys ++ after) a (length-take-le a xs within)) ∙ ap (λ m. take m (ys ++ after)) same ∙ take-append-le n ys after fits

take_split : (a b : ℕ) (old new : List ℕ) → a ≤ b → take a new ≡ take a old → take a old ++ slice_range new a b ≡ take b new
take_split a b old new h front =
    let same : a + (b - a) ≡ b = omega arith in
    ap (λ l. l ++ slice_range new a b) (sym front) ∙ sym (take-add a (b - a) new) ∙ ap (λ n. take n new) same

-- what waits, and after it what was read
pub later : (at k n : ℕ) (xs ys : List ℕ) → at ≤ length xs → n ≤ length ys → take at xs ++ take n ys ≡ take (at + n) (put_mid at k xs ys)
later at k n xs ys within fits =
    let front = take-put_mid_below _ _ _ _ _ (le_refl _) within in
    ap (λ l. take at xs ++ l) (sym (slice_range-put_mid at k n xs ys within fits)) ∙ take_split at (at + n) xs (put_mid at k xs ys) (omega arith) front

-- bytes that are put at the front
pub front_put : (k : ℕ) (xs ys : List ℕ) → take (length ys) (put_mid 0 k xs ys) ≡ ys
front_put k xs ys = take-append_seam ys (post_of 0 k xs)
