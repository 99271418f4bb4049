-- Bytes that are put in parts, and the bytes of a page that are put between zeros.
use Rattle.std.proofs.Common.{◌≡◌, ◌≢◌, ℕ, zero, suc, ◌+◌, ◌-◌, ◌*◌, ◌<◌, ◌≤◌, ◌∙◌, Bool, true, false, ◌&&◌, cond, eqb, leb, List, [], ◌∷◌, ◌++◌, length, take, drop, fold, replicate, get_or, refl, sym, ap, subst, arith, append_assoc, length-append}
use Rattle.std.specs.List.{prefix_len, slice_range}
use Rattle.std.proofs.lemmas.Bool.{leb-true, ne_eqb, eq-eqb}
use Rattle.std.proofs.lemmas.List.{append-nil, take-append-drop, take_at, drop_at, drop-drop, length-take-le, length-drop, length-take, take_all, drop_all, drop_more, drop-replicate, take_rest, replicate-append-replicate}
use Rattle.std.proofs.lemmas.List.Folds.{length-prefix_len}
use Rattle.std.proofs.lemmas.Map.Views.{exact_unsigned_eq}
use Rattle.pl_block.specs.Bounds.{page_size}
use Rattle.pl_block.specs.declared.record.Record.{Record}
use Rattle.pl_block.specs.declared.record.Record.TheVariants.{Put, Zero}
use Rattle.pl_pages.specs.Page.{empty_page, changed, after_record}
use Rattle.pl_images.specs.Image.{PageImage, after_image, image_at, are_rising}
use Rattle.pl_images.specs.Packing.{PackingState, HasImage, IsLeft, Puts, PutsFront, PutsRun, begun, front_of, packed}

-- ---- lists

take_nothing : {A : Type 0} (k : ℕ) → take {A = A} k [] ≡ []
take_nothing zero = refl
take_nothing (suc k) = refl

pub take_add : {A : Type 0} (m n : ℕ) (xs : List A) → take (m + n) xs ≡ take m xs ++ take n (drop m xs)
take_add zero n xs = let e : 0 + n ≡ n = omega arith in ap (λ k. take k xs) e
take_add (suc m) n [] = take_nothing (suc m + n) ∙ sym (take_nothing n)
take_add (suc m) n (x ∷ xs) = let e : suc m + n ≡ suc (m + n) = omega arith in ap (λ k. take k (x ∷ xs)) e ∙ ap (λ ys. x ∷ ys) (take_add m n xs)

-- what lies this far behind the first of two lists
drop_behind : (front back : List ℕ) (m n : ℕ) → length front ≡ m → drop (m + n) (front ++ back) ≡ drop n back
drop_behind front back m n len = sym (drop-drop n m (front ++ back)) ∙ ap (drop n) (drop_at front back m len)

-- ---- two parts of some bytes

put_twice : (offset : ℕ) (a b old : List ℕ) → offset + length a + length b ≤ length old
    → (take (offset + length a) ((take offset old ++ a) ++ drop (offset + length a) old) ++ b) ++ drop (offset + length a + length b) ((take offset old ++ a) ++ drop (offset + length a) old)
    ≡ (take offset old ++ (a ++ b)) ++ drop (offset + length (a ++ b)) old
put_twice offset a b old within =
    let front = take offset old ++ a in
    let back = drop (offset + length a) old in
    let long : length front ≡ offset + length a = length-append (take offset old) a ∙ ap (λ n. n + length a) (length-take-le offset old (omega arith)) in
    let whole : offset + length a + length b ≡ offset + length (a ++ b) = omega (arith, length-append a b) in
    ap (λ xs. (xs ++ b) ++ drop (offset + length a + length b) (front ++ back)) (take_at front back (offset + length a) long)
    ∙ ap (λ xs. (front ++ b) ++ xs) (drop_behind front back (offset + length a) (length b) long ∙ drop-drop (length b) (offset + length a) old ∙ ap (λ n. drop n old) whole)
    ∙ ap (λ xs. xs ++ drop (offset + length (a ++ b)) old) (append_assoc (take offset old) a b)

after_two : (page offset : ℕ) (a b old : List ℕ) (ours : Bool) → offset + length a + length b ≤ length old
    → cond ours (changed (Put page (offset + length a) b) (cond ours (changed (Put page offset a) old) old)) (cond ours (changed (Put page offset a) old) old) ≡ cond ours (changed (Put page offset (a ++ b)) old) old
after_two page offset a b old true within = put_twice offset a b old within
after_two page offset a b old false within = refl

put_nothing : (offset : ℕ) (old : List ℕ) → ((take offset old ++ []) ++ drop (offset + 0) old) ≡ old
put_nothing offset old =
    let same : offset + 0 ≡ offset = omega arith in
    ap (λ xs. xs ++ drop (offset + 0) old) (append-nil (take offset old)) ∙ ap (λ n. take offset old ++ drop n old) same ∙ take-append-drop offset old

after_nothing : (page offset : ℕ) (old : List ℕ) (ours : Bool) → cond ours (changed (Put page offset []) old) old ≡ old
after_nothing page offset old true = put_nothing offset old
after_nothing page offset old false = refl

pub puts_nothing : (s : PackingState) (page offset : ℕ) → Puts s s page offset []
puts_nothing s page offset = record {
  first = refl;
  pages = λ other. sym (after_nothing page offset (packed other s) (eqb page other));
  few = omega arith;
}

pub puts_then : (a b c : PackingState) (page offset at : ℕ) (xs ys : List ℕ) → ((other : ℕ) → length (packed other a) ≡ page_size) → offset + length xs + length ys ≤ page_size → at ≡ offset + length xs
    → Puts a b page offset xs → Puts b c page at ys → Puts a c page offset (xs ++ ys)
puts_then a b c page offset at xs ys sized within there one two = record {
  first = two.first ∙ one.first;
  pages = λ other.
      two.pages other ∙ ap (λ n. after_record other (packed other b) (Put page n ys)) there
      ∙ ap (λ old. after_record other old (Put page (offset + length xs) ys)) (one.pages other)
      ∙ after_two page offset xs ys (packed other a) (eqb page other) (omega (arith, within, sized other));
  few = omega (arith, one.few, two.few, length-append xs ys);
}

-- one step of the loop
pub put_step : (a b c : PackingState) (page offset at n : ℕ) (whole bytes rest : List ℕ) → ((other : ℕ) → length (packed other a) ≡ page_size) → offset + length whole ≤ page_size
    → offset ≤ at → at + length bytes ≡ offset + length whole → bytes ≡ drop (at - offset) whole → Puts a b page offset (take (at - offset) whole) → PutsFront b c page at bytes rest n
    → (rest ≡ drop (at + n - offset) whole) × Puts a c page offset (take (at + n - offset) whole)
put_step a b c page offset at n whole bytes rest sized within began sum is before front =
    let k = at - offset in
    let more : at + n - offset ≡ k + n = omega (arith, began) in
    let long : length (take k whole) ≡ k = length-take-le k whole (omega (arith, sum, began)) in
    let all : length (take n (drop k whole)) ≡ n = length-take-le n (drop k whole) (omega (arith, front.within, ap length is)) in
    let puts = subst (λ xs. Puts b c page at (take n xs)) is front.puts in
    let both = puts_then a b c page offset at (take k whole) (take n (drop k whole)) sized (omega (arith, long, all, front.within, sum, began, within)) (omega (arith, long, began)) before puts in (
      front.rest_is ∙ ap (drop n) is ∙ drop-drop n k whole ∙ ap (λ m. drop m whole) (sym more),
      subst (λ xs. Puts a c page offset xs) (sym (take_add k n whole) ∙ ap (λ m. take m whole) (sym more)) both,
    )

-- ---- what is put between zeros

zeros_cons : (x : ℕ) (xs : List ℕ) (none : Bool) → eqb x 0 ≡ none → take (prefix_len (λ byte. eqb byte 0) xs) xs ≡ replicate (prefix_len (λ byte. eqb byte 0) xs) 0
    → take (cond none (1 + prefix_len (λ byte. eqb byte 0) xs) 0) (x ∷ xs) ≡ replicate (cond none (1 + prefix_len (λ byte. eqb byte 0) xs) 0) 0
zeros_cons x xs true e rest =
    let n = prefix_len (λ byte. eqb byte 0) xs in
    let more : 1 + n ≡ suc n = omega arith in
    ap (λ k. take k (x ∷ xs)) more ∙ ap (λ y. y ∷ take n xs) (exact_unsigned_eq x 0 e) ∙ ap (λ ys. 0 ∷ ys) rest ∙ ap (λ k. replicate {A = ℕ} k 0) (sym more)
zeros_cons x xs false e rest = refl

zeros_front : (xs : List ℕ) → take (prefix_len (λ byte. eqb byte 0) xs) xs ≡ replicate (prefix_len (λ byte. eqb byte 0) xs) 0
zeros_front [] = refl
zeros_front (x ∷ xs) = zeros_cons x xs (eqb x 0) refl (zeros_front xs)

-- the search for what is not zero, one byte on
pub zeros_more : (xs : List ℕ) (i d : ℕ) → i < length xs → get_or xs i d ≡ 0 → i + prefix_len (λ byte. eqb byte 0) (drop i xs) ≡ i + 1 + prefix_len (λ byte. eqb byte 0) (drop (i + 1) xs)
zeros_more xs i d within none =
    let here = drop_more xs i d within in
    let e : eqb (get_or xs i d) 0 ≡ true = eq-eqb _ _ none in
    let n = prefix_len (λ byte. eqb byte 0) (drop (i + 1) xs) in
    let one : prefix_len (λ byte. eqb byte 0) (drop i xs) ≡ 1 + n = ap (prefix_len (λ byte. eqb byte 0)) here ∙ ap (λ b. cond b (1 + n) 0) e in
    omega (arith, one)

pub zeros_end : (xs : List ℕ) (i d : ℕ) → i < length xs → get_or xs i d ≢ 0 → prefix_len (λ byte. eqb byte 0) (drop i xs) ≡ 0
zeros_end xs i d within some =
    let e : eqb (get_or xs i d) 0 ≡ false = ne_eqb _ _ some in
    let n = prefix_len (λ byte. eqb byte 0) (drop (i + 1) xs) in
    ap (prefix_len (λ byte. eqb byte 0)) (drop_more xs i d within) ∙ ap (λ b. cond b (1 + n) 0) e

zeros_within : (xs : List ℕ) → prefix_len (λ byte. eqb byte 0) xs ≤ length xs
zeros_within xs = omega (arith, length-prefix_len (λ byte. eqb byte 0) xs, length-take (prefix_len (λ byte. eqb byte 0) xs) xs)

-- a page of zeros, without a number that is long to count
blank : (n : ℕ) × ((empty_page ≡ replicate n 0) × (n ≡ page_size))
unfolding empty_page
blank = (page_size, (refl, refl))

module _ (at : ℕ) (bytes : List ℕ) (within : at ≤ length bytes) (sized : length bytes ≡ page_size) where
  abbrev z : ℕ
  z = prefix_len (λ byte. eqb byte 0) (drop at bytes)

  few : at + z ≤ page_size
  few = omega (arith, within, zeros_within (drop at bytes), length-drop at bytes, sized)

  zeros : ℕ → List ℕ
  zeros k = replicate k 0

  behind : (k : ℕ) → drop k empty_page ≡ zeros (blank.0 - k)
  unfolding zeros
  behind k = let none : ℕ = 0 in ap (drop k) blank.1.0 ∙ drop-replicate k blank.0 none

  split : zeros (blank.0 - at) ≡ zeros z ++ zeros (blank.0 - (at + z))
  unfolding zeros
  split =
      let sum : z + (blank.0 - (at + z)) ≡ blank.0 - at = omega (arith, few, blank.1.1) in
      let none : ℕ = 0 in
      ap (λ k. replicate k none) (sym sum) ∙ sym (replicate-append-replicate z (blank.0 - (at + z)) none)

  -- zeros that the bytes have are those of the empty page
  pub past_zeros : front_of at bytes ≡ front_of (at + z) bytes
  unfolding zeros
  past_zeros =
      ap (λ xs. take at bytes ++ xs) (behind at ∙ split ∙ ap (λ xs. zeros z ++ xs) (sym (behind (at + z))))
      ∙ sym (append_assoc (take at bytes) (zeros z) (drop (at + z) empty_page))
      ∙ ap (λ xs. (take at bytes ++ xs) ++ drop (at + z) empty_page) (sym (zeros_front (drop at bytes)))
      ∙ ap (λ xs. xs ++ drop (at + z) empty_page) (sym (take_add at z bytes))

-- what is put at the end of a front makes it longer
pub front_more : (start : ℕ) (bytes run : List ℕ) → start + length run ≤ length bytes → run ≡ take (length run) (drop start bytes)
    → ((take start (front_of start bytes) ++ run) ++ drop (start + length run) (front_of start bytes)) ≡ front_of (start + length run) bytes
front_more start bytes run within is =
    let long : length (take start bytes) ≡ start = length-take-le start bytes (omega (arith, within)) in
    ap (λ xs. (xs ++ run) ++ drop (start + length run) (front_of start bytes)) (take_at (take start bytes) (drop start empty_page) start long)
    ∙ ap (λ xs. (take start bytes ++ run) ++ xs) (drop_behind (take start bytes) (drop start empty_page) start (length run) long ∙ drop-drop (length run) start empty_page)
    ∙ ap (λ xs. xs ++ drop (start + length run) empty_page) (ap (λ xs. take start bytes ++ xs) is ∙ sym (take_add start (length run) bytes))

-- a run ends after it began: there is a zero before it, or a byte in it
pub run_later : (at zeros filled : ℕ) (bytes : List ℕ) → at < length bytes → zeros ≡ prefix_len (λ byte. eqb byte 0) (drop at bytes)
    → (0 < length (drop (at + zeros) bytes) → prefix_len (λ byte. eqb byte 0) (drop (at + zeros) bytes) ≡ 0 → 0 < filled) → at < at + zeros + filled
run_later at zero filled bytes within none some =
    let here : at + 0 ≡ at = omega arith in
    let left : 0 < length (drop (at + 0) bytes) = omega (arith, length-drop (at + 0) bytes, within) in
    omega (arith, some left (ap (λ k. prefix_len (λ byte. eqb byte 0) (drop k bytes)) here ∙ sym none))
run_later at (suc n) filled bytes within none some = omega arith

-- one run of an image
pub runs : (old new : PackingState) (image : PageImage) (at start end : ℕ) (run : List ℕ) → length image.bytes ≡ page_size → at ≤ page_size
    → start ≡ at + prefix_len (λ byte. eqb byte 0) (drop at image.bytes) → start ≤ end → end ≤ page_size → at < end → run ≡ slice_range image.bytes start end
    → Puts old new image.page start run → PutsRun old new image at end
runs old new image at start end run sized within begins order ends later is puts = record {
  later = later;
  within = ends;
  first = puts.first;
  own = λ before.
      let old_is = before ∙ past_zeros at image.bytes (omega (arith, within, sized)) sized ∙ ap (λ k. front_of k image.bytes) (sym begins) in
      puts.pages image.page
      ∙ ap (λ b. cond b (changed (Put image.page start run) (packed image.page old)) (packed image.page old)) (eq-eqb image.page image.page refl)
      ∙ ap (λ xs. (take start xs ++ run) ++ drop (start + length run) xs) old_is
      ∙ front_more start image.bytes run (omega (arith, sum, ends, sized)) (is ∙ ap (λ k. take k (drop start image.bytes)) (sym counted))
      ∙ ap (λ k. front_of k image.bytes) sum;
  others = λ other differ.
      puts.pages other ∙ ap (λ b. cond b (changed (Put image.page start run) (packed other old)) (packed other old)) (ne_eqb image.page other differ);
  few = omega (arith, puts.few, sum, begins);
}
  where
    counted : length run ≡ end - start
    counted = ap length is ∙ length-take-le (end - start) (drop start image.bytes) (omega (arith, length-drop start image.bytes, sized, ends, order))

    sum : start + length run ≡ end
    sum = omega (arith, counted, order)

eqb_differ : (a b : ℕ) → eqb a b ≡ false → a ≢ b
eqb_differ a b e same = absurd (let f = eq-eqb a b same in cc)

-- the same, of what the calls were given and returned
pub run_put : (old new : PackingState) (image : PageImage) (at zeros filled page : ℕ) (lent again inside run : List ℕ) → lent ≡ image.bytes → again ≡ image.bytes → inside ≡ image.bytes → page ≡ image.page → length lent ≡ page_size → at < page_size
    → zeros ≡ prefix_len (λ byte. eqb byte 0) (take (length lent - at) (drop at lent))
    → (0 < length (take (length again - (at + zeros)) (drop (at + zeros) again)) → prefix_len (λ byte. eqb byte 0) (take (length again - (at + zeros)) (drop (at + zeros) again)) ≡ 0 → 0 < filled)
    → filled ≤ length (take (length again - (at + zeros)) (drop (at + zeros) again)) → at + zeros ≤ length again
    → run ≡ slice_range inside (at + zeros) (at + zeros + filled) → Puts old new page (at + zeros) run → PutsRun old new image at (at + zeros + filled)
run_put old new image at zeros filled page lent again inside run lent_is again_is inside_is page_is sized within none some few begins is puts =
    let long : length image.bytes ≡ page_size = sym (ap length lent_is) ∙ sized in
    let none_is = none ∙ ap (prefix_len (λ byte. eqb byte 0)) (take_rest lent at ∙ ap (drop at) lent_is) in
    let rest_is = take_rest again (at + zeros) ∙ ap (drop (at + zeros)) again_is in
    let some_is = subst (λ (xs : List ℕ). 0 < length xs → prefix_len (λ byte. eqb byte 0) xs ≡ 0 → 0 < filled) rest_is some in
    let few_is = subst (λ (xs : List ℕ). filled ≤ length xs) rest_is few in
    let later = run_later at zeros filled image.bytes (omega (arith, within, long)) none_is some_is in
    let starts : at + zeros ≤ page_size = omega (arith, begins, ap length again_is, long) in
    let ends : at + zeros + filled ≤ page_size = omega (arith, starts, few_is, length-drop (at + zeros) image.bytes, long) in
    runs old new image at (at + zeros) (at + zeros + filled) run long (omega (arith, within)) (ap (λ k. at + k) none_is) (omega arith) ends later
    (is ∙ ap (λ xs. slice_range xs (at + zeros) (at + zeros + filled)) inside_is) (subst (λ p. Puts old new p (at + zeros) run) page_is puts)

-- ---- one image

pub run_none : (s : PackingState) (image : PageImage) → packed image.page s ≡ empty_page → packed image.page s ≡ front_of 0 image.bytes
run_none s image is = is

pub image_put : (old new : PackingState) (image : PageImage) (at : ℕ) → length image.bytes ≡ page_size → length empty_page ≡ page_size → at ≡ page_size → new.first ≡ old.first
    → packed image.page new ≡ front_of at image.bytes → ((other : ℕ) → image.page ≢ other → packed other new ≡ packed other old) → begun new ≤ begun old + at → HasImage old new image
image_put old new image at sized empty ends first own others few = record {
  first = first;
  pages = λ other. by_case other (eqb image.page other) refl;
  few = omega (arith, few, ends);
}
  where
    whole : front_of at image.bytes ≡ image.bytes
    whole =
        ap (λ xs. xs ++ drop at empty_page) (take_all at image.bytes (omega (arith, sized, ends)))
        ∙ ap (λ xs. image.bytes ++ xs) (drop_all at empty_page (omega (arith, empty, ends)))
        ∙ append-nil image.bytes

    by_case : (other : ℕ) (same : Bool) → eqb image.page other ≡ same → packed other new ≡ cond (eqb image.page other) image.bytes (packed other old)
    by_case other true e = rw e (let is = exact_unsigned_eq image.page other e in subst (λ p. packed p new ≡ image.bytes) is (own ∙ whole))
    by_case other false e = rw e (others other (eqb_differ image.page other e))

-- ---- all images

pub none_left : (first : ℕ) (images : List PageImage) (s : PackingState) → are_rising 0 images ≡ true → s.first ≡ first → s.blocks ≡ [] → s.records ≡ [] → IsLeft first images images s
none_left first images s rising first_is no_blocks no_records = record {
  low = 0;
  rising = rising;
  blank = λ page le. nothing page;
  after = λ page. ap (λ old. fold (after_image page) old images) (nothing page);
  first_is = first_is;
  few = omega (arith, ap length no_blocks, ap length no_records);
}
  where
    nothing : (page : ℕ) → packed page s ≡ empty_page
    nothing page = rw (no_blocks, no_records) refl

both : (a b : Bool) → (a && b) ≡ true → (a ≡ true) × (b ≡ true)
both true true e = (refl, refl)
both true false e = absurd cc
both false b e = absurd cc

pub one_left : (first : ℕ) (images rest : List PageImage) (image : PageImage) (s t : PackingState) → IsLeft first images (image ∷ rest) s → HasImage s t image → IsLeft first images rest t
one_left first images rest image s t left has = record {
  low = image.page + 1;
  rising = rises.1;
  blank = λ page le.
      has.pages page ∙ ap (λ b. cond b image.bytes (packed page s)) (ne_eqb image.page page (λ same. omega (arith, le, same)))
      ∙ left.blank page (omega (arith, le, leb-true _ _ rises.0));
  after = λ page. ap (λ old. fold (after_image page) old rest) (has.pages page) ∙ left.after page;
  first_is = has.first ∙ left.first_is;
  few = omega (arith, has.few, left.few);
}
  where
    rises : (leb left.low image.page ≡ true) × (are_rising (image.page + 1) rest ≡ true)
    rises = both _ _ left.rising

-- the page of the next image has had no record
pub next_blank : (first : ℕ) (images rest : List PageImage) (image : PageImage) (s : PackingState) → IsLeft first images (image ∷ rest) s → packed image.page s ≡ empty_page
next_blank first images rest image s left = left.blank image.page (leb-true _ _ (both _ _ left.rising).0)
