-- What reads and writes in turn do to a buffer and to the bytes of a reader and a writer.
use Rattle.std.proofs.Common.{◌≡◌, ℕ, ◌+◌, ◌-◌, ◌≤◌, List, ◌++◌, arith, length, take, drop, slice_range, sym, ap, ◌∙◌, subst, le_refl, drop_at, length-take-le}
use Rattle.std.proofs.lemmas.List.{take_rest}
use Rattle.std.proofs.lemmas.Slice.{take-put_mid_below}
use Rattle.std.specs.declared.option.Option.{Option}
use Rattle.std.specs.Io.KnownBytes.{Appends, Consumes, Keeps}
use Rattle.std.proofs.KnownBytes.{Appends-trans, Consumes-trans, Consumes-kept}
use borrow.Rule.Slice.PartMut.{put_mid, post_of}
use lib.Seq.{take-add, take-append-le}

slice_range-put_mid : (a k n : ℕ) (xs ys : List ℕ) → a ≤ length xs → n ≤ length ys → slice_range (put_mid a k xs ys) a (a + n) ≡ take n ys
slice_range-put_mid a k n xs ys within fits =
    let same : (a + n) - a ≡ n = omega arith in
    let after = post_of a k xs in
    ap (take ((a + n) - a)) (drop_at (take a xs) (ys ++ after) a (length-take-le a xs within)) ∙ ap (λ m. take m (ys ++ after)) same ∙ take-append-le n ys after fits

take_split : (a b : ℕ) (old new : List ℕ) → a ≤ b → take a new ≡ take a old → take a old ++ slice_range new a b ≡ take b new
take_split a b old new h front =
    let same : a + (b - a) ≡ b = omega arith in
    ap (λ l. l ++ slice_range new a b) (sym front) ∙ sym (take-add a (b - a) new) ∙ ap (λ n. take n new) same

-- a read into the rest of a buffer goes on where the reads before it stopped
pub filled_more : (a b c : Option (List ℕ)) (at k n : ℕ) (xs ys : List ℕ) → at ≤ length xs → n ≤ length ys
    → Consumes a b (take at xs) → Consumes b c (take n ys) → Consumes a c (take (at + n) (put_mid at k xs ys))
filled_more a b c at k n xs ys within fits before more =
    let front = take-put_mid_below _ _ _ _ _ (le_refl _) within in
    let joined : take at xs ++ take n ys ≡ take (at + n) (put_mid at k xs ys) =
    ap (λ l. take at xs ++ l) (sym (slice_range-put_mid at k n xs ys within fits)) ∙ take_split at (at + n) xs (put_mid at k xs ys) (omega arith) front in
    subst (Consumes a c) joined (Consumes-trans a b c _ _ before more)

-- a read that failed leaves what was read before it
pub filled_kept : (a b c : Option (List ℕ)) (at k : ℕ) (xs ys : List ℕ) → at ≤ length xs
    → Consumes a b (take at xs) → Keeps b c → Consumes a c (take at (put_mid at k xs ys))
filled_kept a b c at k xs ys within before kept =
    subst (Consumes a c) (sym (take-put_mid_below _ _ _ _ _ (le_refl _) within)) (Consumes-kept a b c _ before kept)

-- a write of the rest goes on where the writes before it stopped
pub written_more : (a b c : Option (List ℕ)) (at n : ℕ) (xs : List ℕ)
    → Appends a b (take at xs) → Appends b c (take n (take (length xs - at) (drop at xs))) → Appends a c (take (at + n) xs)
written_more a b c at n xs before more =
    let joined : take at xs ++ take n (take (length xs - at) (drop at xs)) ≡ take (at + n) xs =
    ap (λ l. take at xs ++ take n l) (take_rest xs at) ∙ sym (take-add at n xs) in
    subst (Appends a c) joined (Appends-trans a b c _ _ before more)
