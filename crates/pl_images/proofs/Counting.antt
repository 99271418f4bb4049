-- A block that is packed: how long it is with one Put more, and which partitions it touches.
use Rattle.std.proofs.Common.{◌≡◌, ℕ, zero, suc, ◌+◌, ◌*◌, ◌/◌, ◌<◌, ◌≤◌, ◌∙◌, Bool, true, false, eqb, ltb, Option, None, Some, List, [], ◌∷◌, ◌++◌, length, refl, sym, ap, subst, inl, inr, arith, length-append}
use Rattle.std.specs.List.{AllByRecursion, flat_map}
use Rattle.std.specs.Int.{w16, to_be_bytes}
use Rattle.std.proofs.lemmas.Bool.{cases_lt, cases_eq, lt-ltb, le-ltb, eq-eqb}
use Rattle.std.proofs.lemmas.Bool.Decides.{nat_tests}
use Rattle.std.proofs.lemmas.List.{flat_map_more, length_push}
use Rattle.std.proofs.lemmas.List.Sums.{fold-append}
use Rattle.std.proofs.lemmas.Map.Views.{exact_unsigned_eq}
use Rattle.std.proofs.lemmas.Option.{same_Some}
use Rattle.pl_block.specs.Block.{Content, IsRecord, partition_of, touched, with_partition}
use Rattle.pl_block.specs.Bounds.{last_lsn, longest_block}
use Rattle.pl_block.specs.Numbered.{AreNumbered}
use Rattle.pl_block.specs.Spelling.{IsBlock, block_spelling, record_spelling}
use Rattle.pl_block.specs.declared.record.Record.{Record}
use Rattle.pl_block.specs.declared.record.Record.TheVariants.{Put, Zero}
use Rattle.pl_images.specs.Packing.{IsPacking, heads_of}

-- how two partitions compare
data Place (p q : ℕ) : Type 0 where
  above : q < p → Place p q
  here : q ≡ p → Place p q
  below : p < q → Place p q

place : (p q : ℕ) → Place p q
place p q =
    elim (cases_lt q p) [
      | inl lt ↦ above lt
      | inr le ↦ elim (cases_eq q p) [ inl e ↦ here e | inr ne ↦ below (let differ : q ≡ p → ⊥ = ne in omega arith) ]
    ]

with_above : (p q : ℕ) (qs : List ℕ) → q < p → with_partition p (q ∷ qs) ≡ q ∷ with_partition p qs
with_above p q qs lt = let e : ltb q p ≡ true = lt-ltb q p lt in rw e refl

with_here : (p q : ℕ) (qs : List ℕ) → q ≡ p → with_partition p (q ∷ qs) ≡ q ∷ qs
with_here p q qs same =
    let e : ltb q p ≡ false = le-ltb q p (omega arith) in
    let f : eqb q p ≡ true = eq-eqb q p same in
    rw (e, f) refl

with_below : (p q : ℕ) (qs : List ℕ) → p < q → with_partition p (q ∷ qs) ≡ p ∷ q ∷ qs
with_below p q qs lt =
    let e : ltb q p ≡ false = le-ltb q p (omega arith) in
    let f : eqb q p ≡ false = grind (arith, nat_tests) in
    rw (e, f) refl

-- a partition is added once
with_again : (p : ℕ) (qs : List ℕ) → with_partition p (with_partition p qs) ≡ with_partition p qs
with_again p [] = with_here p p [] refl
with_again p (q ∷ qs) =
    elim (place p q) [
      | above lt ↦ ap (with_partition p) (with_above p q qs lt) ∙ with_above p q (with_partition p qs) lt ∙ ap (λ ps. q ∷ ps) (with_again p qs) ∙ sym (with_above p q qs lt)
      | here e ↦ ap (with_partition p) (with_here p q qs e)
      | below lt ↦ ap (with_partition p) (with_below p q qs lt) ∙ with_here p p (q ∷ qs) refl ∙ sym (with_below p q qs lt)
    ]

length-with : (p : ℕ) (qs : List ℕ) → length (with_partition p qs) ≤ length qs + 1
length-with p [] = omega arith
length-with p (q ∷ qs) =
    elim (place p q) [
      | above lt ↦ omega (arith, ap length (with_above p q qs lt), length-with p qs)
      | here e ↦ omega (arith, ap length (with_here p q qs e))
      | below lt ↦ omega (arith, ap length (with_below p q qs lt))
    ]

touched-push : (rs : List Record) (r : Record) → touched (rs ++ r ∷ []) ≡ with_partition (partition_of r) (touched rs)
touched-push rs r = fold-append (λ ps r. with_partition (partition_of r) ps) [] rs (r ∷ [])

length-partitions : (ps : List ℕ) → length (flat_map (to_be_bytes w16) ps) ≡ 2 * length ps
length-partitions [] = refl
length-partitions (p ∷ ps) = omega (arith, length-partitions ps)

length-block : (lsn : ℕ) (rs : List Record) → length (block_spelling (record { lsn = lsn; records = rs })) ≡ 12 + 2 * length (touched rs) + length (flat_map record_spelling rs)
length-block lsn rs = simp length-append (omega (arith, length-partitions (touched rs)))

length-put : (page offset : ℕ) (bytes : List ℕ) → length (record_spelling (Put page offset bytes)) ≡ 9 + length bytes
length-put page offset bytes = simp length-append (omega arith)

length-records : (rs : List Record) (r : Record) → length (flat_map record_spelling (rs ++ r ∷ [])) ≡ length (flat_map record_spelling rs) + length (record_spelling r)
length-records rs r = ap length (sym (flat_map_more record_spelling [] rs r)) ∙ length-append (flat_map record_spelling rs) (record_spelling r)

-- the partitions with those of a Put, in bytes
partitions_more : (p : ℕ) (partition : Option ℕ) (rs : List Record) → ((q : ℕ) → partition ≡ Some q → with_partition q (touched rs) ≡ touched rs)
    → 9 + 2 * length (with_partition p (touched rs)) ≤ heads_of partition p + 2 * length (touched rs)
partitions_more p None rs touches = omega (arith, length-with p (touched rs))
partitions_more p (Some q) rs touches = by_case (eqb q p) refl
  where
    by_case : (same : Bool) → eqb q p ≡ same → 9 + 2 * length (with_partition p (touched rs)) ≤ heads_of (Some q) p + 2 * length (touched rs)
    by_case true e =
        let there = touches p (ap Some (exact_unsigned_eq q p e)) in
        rw e (omega (arith, ap length there))
    by_case false e = rw e (omega (arith, length-with p (touched rs)))

counted_more : (lsn size page offset : ℕ) (bytes : List ℕ) (partition : Option ℕ) (rs : List Record) → ((q : ℕ) → partition ≡ Some q → with_partition q (touched rs) ≡ touched rs)
    → length (block_spelling (record { lsn = lsn; records = rs })) ≤ size → length (block_spelling (record { lsn = lsn; records = rs ++ Put page offset bytes ∷ [] })) ≤ size + (heads_of partition (page / 65536) + length bytes)
counted_more lsn size page offset bytes partition rs touches counted =
    let r = Put page offset bytes in
    omega (arith, counted, length-block lsn rs, length-block lsn (rs ++ r ∷ []), length-records rs r, length-put page offset bytes, ap length (touched-push rs r), partitions_more (page / 65536) partition rs touches)

all-push : {A : Type 0} (P : A → Type 0) (xs : List A) (x : A) → AllByRecursion P xs → P x → AllByRecursion P (xs ++ x ∷ [])
all-push P [] x all one = (one, tt)
all-push P (y ∷ ys) x all one = (all.0, all-push P ys x all.1 one)

pub push_packing : (first size page offset : ℕ) (bytes : List ℕ) (partition : Option ℕ) (blocks : List Content) (rs : List Record) → IsPacking first size partition blocks rs → IsRecord (Put page offset bytes)
    → size + (heads_of partition (page / 65536) + length bytes) ≤ longest_block
    → IsPacking first (size + (heads_of partition (page / 65536) + length bytes)) (Some (page / 65536)) blocks (rs ++ Put page offset bytes ∷ [])
push_packing first size page offset bytes partition blocks rs is one fits = record {
  some = is.some;
  numbered = is.numbered;
  valid = is.valid;
  each = all-push IsRecord rs (Put page offset bytes) is.each one;
  counted = λ lsn. counted_more lsn size page offset bytes partition rs is.touches (is.counted lsn);
  within = fits;
  empty = λ none. absurd (omega (arith, none, length_push rs (Put page offset bytes)));
  touches = λ p same.
      subst (λ q. with_partition q (touched (rs ++ Put page offset bytes ∷ [])) ≡ touched (rs ++ Put page offset bytes ∷ [])) (same_Some _ _ same)
      (ap (with_partition (page / 65536)) (touched-push rs (Put page offset bytes)) ∙ with_again (page / 65536) (touched rs) ∙ sym (touched-push rs (Put page offset bytes)));
}

-- the same, of what the call was given and returned
pub pushed : (first size page offset p heads len : ℕ) (bytes : List ℕ) (partition : Option ℕ) (blocks : List Content) (rs new : List Record) → IsPacking first size partition blocks rs
    → p ≡ page / 65536 → heads ≡ heads_of partition p → len ≡ length bytes → new ≡ rs ++ Put page offset bytes ∷ [] → IsRecord (Put page offset bytes) → size + heads_of partition p + length bytes ≤ longest_block
    → IsPacking first (size + (heads + len)) (Some p) blocks new
pushed first size page offset p heads len bytes partition blocks rs new is of_page heads_are len_is new_is one room =
    let fits : size + (heads_of partition (page / 65536) + length bytes) ≤ longest_block = omega (arith, subst (λ q. size + heads_of partition q + length bytes ≤ longest_block) of_page room) in
    let whole = push_packing first size page offset bytes partition blocks rs is one fits in
    rw (new_is, len_is, heads_are, of_page) whole

plus_none : (n : ℕ) → n + 0 ≡ n
plus_none n = omega arith

plus_next : (n k : ℕ) → n + suc k ≡ n + 1 + k
plus_next n k = omega arith

numbered-push : (first : ℕ) (xs : List Content) (block : Content) → AreNumbered first xs → block.lsn ≡ first + length xs → AreNumbered first (xs ++ block ∷ [])
numbered-push first [] block h next = (next ∙ plus_none first, tt)
numbered-push first (x ∷ xs) block h next = (h.0, numbered-push (first + 1) xs block h.1 (next ∙ plus_next first (length xs)))

-- the open block is one
pub open_block : (first size : ℕ) (partition : Option ℕ) (blocks : List Content) (rs : List Record) → IsPacking first size partition blocks rs → first + length blocks ≤ last_lsn
    → IsBlock (record { lsn = first + length blocks; records = rs })
open_block first size partition blocks rs is room = record {
  positive = omega (arith, is.some);
  in_range = room;
  each = is.each;
  short = omega (arith, is.counted (first + length blocks), is.within);
}

-- of what the call was given
pub open_block_of : (first size n : ℕ) (partition : Option ℕ) (blocks : List Content) (rs taken : List Record) → IsPacking first size partition blocks rs → first + length blocks ≤ last_lsn → n ≡ length blocks → taken ≡ rs
    → IsBlock (record { lsn = first + n; records = taken })
open_block_of first size n partition blocks rs taken is room counted same = rw (counted, same) (open_block first size partition blocks rs is room)

close_packing : (first size : ℕ) (partition : Option ℕ) (blocks : List Content) (rs : List Record) → IsPacking first size partition blocks rs → first + length blocks ≤ last_lsn
    → IsPacking first 12 None (blocks ++ (record { lsn = first + length blocks; records = rs }) ∷ []) []
close_packing first size partition blocks rs is room = record {
  some = is.some;
  numbered = numbered-push first blocks _ is.numbered refl;
  valid = all-push IsBlock blocks _ is.valid (open_block first size partition blocks rs is room);
  each = tt;
  counted = λ lsn. omega (arith, length-block lsn []);
  within = omega arith;
  empty = λ none. refl;
  touches = λ p none. absurd cc;
}

pub closed : (first size n : ℕ) (partition : Option ℕ) (blocks new : List Content) (block : Content) (rs taken rest : List Record) → IsPacking first size partition blocks rs → first + length blocks ≤ last_lsn → n ≡ length blocks
    → taken ≡ rs → rest ≡ [] → block ≡ (record { lsn = first + n; records = taken }) → new ≡ blocks ++ block ∷ [] → IsPacking first 12 None new rest
closed first size n partition blocks new block rs taken rest is room counted same none made pushed_is =
    rw (pushed_is, made, counted, same, none) (close_packing first size partition blocks rs is room)
