-- What is read of a block's annotations in place is what its records touch.
use Rattle.std.proofs.Common.{◌≡◌, ℕ, suc, ◌+◌, ◌-◌, ◌^◌, ◌<◌, ◌≤◌, ◌⊎◌, Bool, true, false, ltb, ◌||◌, List, [], ◌∷◌, ◌++◌, length, take, drop, refl, sym, ap, ◌∙◌, append_assoc, arith, inl, inr}
use Rattle.std.specs.Prelude.{nat_le, ◌&&◌}
use Rattle.std.specs.List.{flat_map, list_any}
use Rattle.std.specs.Int.{w16, w64, from_be_bytes, to_be_bytes}
use Rattle.std.proofs.lemmas.Bool.{lt-ltb, le-ltb, le-leb, lt-leb}
use Rattle.std.proofs.lemmas.List.{take_at, drop_at, length-append}
use Rattle.std.proofs.lemmas.List.Concat.{flat_map-cons}
use Rattle.pl_block.specs.Block.{Content, touched}
use Rattle.pl_block.specs.Spelling.{IsBlock, annotations, record_spelling, block_spelling}
use Rattle.pl_block.specs.Touching.{is_between, touches_between, any_at}
use Rattle.pl_block.proofs.Fields.{wide16}
use Rattle.pl_block.proofs.Touched.{In}
use Rattle.pl_block.proofs.Annotations.{touched_small}
use Rattle.pl_block.proofs.Spellings.{counts}

-- ---- the loop

-- too few bytes for one more
pub any_cut : (lo hi count i : ℕ) (bytes : List ℕ) (total : Bool) → i < count → length bytes < 2 → any_at lo hi (count - i) bytes ≡ total → false ≡ total
unfolding any_at
any_cut lo hi count i bytes total lt short so_far =
    let more : count - i ≡ suc (count - (i + 1)) = omega arith in
    let cut : ltb (length bytes) 2 ≡ true = lt-ltb _ _ short in
    let one : any_at lo hi (count - i) bytes ≡ false = rw (more, cut) refl in
    sym one ∙ so_far

between : (lo hi p : ℕ) → lo ≤ p → p ≤ hi → is_between lo hi p ≡ true
between lo hi p above below = rw (le-leb lo p above, le-leb p hi below) refl

-- one that is in the range
pub any_found : (lo hi count i : ℕ) (bytes : List ℕ) (p : ℕ) (total : Bool) → i < count → 2 ≤ length bytes → p ≡ from_be_bytes w16 (take 2 bytes) → lo ≤ p → p ≤ hi → any_at lo hi (count - i) bytes ≡ total → true ≡ total
unfolding any_at
any_found lo hi count i bytes p total lt long value above below so_far =
    let more : count - i ≡ suc (count - (i + 1)) = omega arith in
    let whole : ltb (length bytes) 2 ≡ false = le-ltb _ _ long in
    let one : any_at lo hi (count - i) bytes ≡ true = rw (more, whole, ← value, between lo hi p above below) refl in
    sym one ∙ so_far

outside : (lo hi p : ℕ) → (p < lo) ⊎ (hi < p) → is_between lo hi p ≡ false
outside lo hi p (inl below) = rw (lt-leb lo p below) refl
outside lo hi p (inr above) = rw (lt-leb p hi above) (none (nat_le lo p))
  where
    none : (b : Bool) → (b && false) ≡ false
    none true = refl
    none false = refl

-- one that is not
pub any_passed : (lo hi count i : ℕ) (bytes : List ℕ) (p : ℕ) (after : List ℕ) (total : Bool) → i < count → 2 ≤ length bytes → p ≡ from_be_bytes w16 (take 2 bytes) → after ≡ drop 2 bytes → (p < lo) ⊎ (hi < p)
    → any_at lo hi (count - i) bytes ≡ total → any_at lo hi (count - (i + 1)) after ≡ total
unfolding any_at
any_passed lo hi count i bytes p after total lt long value rest out so_far =
    let more : count - i ≡ suc (count - (i + 1)) = omega arith in
    let whole : ltb (length bytes) 2 ≡ false = le-ltb _ _ long in
    let one : any_at lo hi (count - i) bytes ≡ any_at lo hi (count - (i + 1)) after = rw (more, whole, ← value, outside lo hi p out, rest) refl in
    sym one ∙ so_far

pub any_done : (lo hi count i : ℕ) (bytes : List ℕ) (total : Bool) → count ≤ i → any_at lo hi (count - i) bytes ≡ total → false ≡ total
unfolding any_at
any_done lo hi count i bytes total le so_far =
    let none : count - i ≡ 0 = omega arith in
    let one : any_at lo hi (count - i) bytes ≡ false = rw none refl in
    sym one ∙ so_far

-- ---- a spelling

any_step : (lo hi n : ℕ) (front rest : List ℕ) (p : ℕ) → length front ≡ 2 → from_be_bytes w16 front ≡ p → any_at lo hi (suc n) (front ++ rest) ≡ (is_between lo hi p || any_at lo hi n rest)
unfolding any_at
any_step lo hi n front rest p len value =
    let whole : ltb (length (front ++ rest)) 2 ≡ false = le-ltb _ _ (omega (arith, length-append front rest)) in
    rw (whole, take_at front rest 2 len, drop_at front rest 2 len, value) refl

-- partitions that were written are asked one by one
pub any_again : (lo hi : ℕ) (ps rest : List ℕ) → ((p : ℕ) → In p ps → p < 2 ^ 16) → any_at lo hi (length ps) (flat_map (to_be_bytes w16) ps ++ rest) ≡ list_any (is_between lo hi) ps
unfolding any_at
any_again lo hi [] rest fits = refl
any_again lo hi (p ∷ ps) rest fits =
    let texts = flat_map (to_be_bytes w16) ps in
    let regrouped : flat_map (to_be_bytes w16) (p ∷ ps) ++ rest ≡ to_be_bytes w16 p ++ (texts ++ rest) = ap (λ (x : List ℕ). x ++ rest) (flat_map-cons (to_be_bytes w16) p ps) ∙ append_assoc (to_be_bytes w16 p) texts rest in
    ap (any_at lo hi (suc (length ps))) regrouped ∙ any_step lo hi (length ps) (to_be_bytes w16 p) (texts ++ rest) p refl (wide16.again p (fits p (inl refl)))
    ∙ ap (λ (b : Bool). is_between lo hi p || b) (any_again lo hi ps rest (λ q i. fits q (inr i)))

-- two bytes of a count, and what follows them
read_count : (lo hi : ℕ) (front rest : List ℕ) (n : ℕ) → length front ≡ 2 → from_be_bytes w16 front ≡ n → any_at lo hi (from_be_bytes w16 (take 2 (front ++ rest))) (drop 2 (front ++ rest)) ≡ any_at lo hi n rest
read_count lo hi front rest n len value = rw (take_at front rest 2 len, drop_at front rest 2 len, value) refl

-- after the LSN: the count and the partitions
pub read_annotations : (lo hi : ℕ) (b : Content) → IsBlock b → any_at lo hi (from_be_bytes w16 (take 2 (drop 8 (block_spelling b)))) (drop 2 (drop 8 (block_spelling b))) ≡ touches_between lo hi b
read_annotations lo hi b h =
    let ps = touched b.records in
    let texts = flat_map (to_be_bytes w16) ps in
    let tail = to_be_bytes w16 (length b.records) ++ flat_map record_spelling b.records in
    let later : drop 8 (block_spelling b) ≡ annotations ps ++ tail = drop_at (to_be_bytes w64 b.lsn) (annotations ps ++ tail) 8 refl in
    let regrouped : annotations ps ++ tail ≡ to_be_bytes w16 (length ps) ++ (texts ++ tail) = append_assoc (to_be_bytes w16 (length ps)) texts tail in
    ap (λ (bytes : List ℕ). any_at lo hi (from_be_bytes w16 (take 2 bytes)) (drop 2 bytes)) (later ∙ regrouped)
    ∙ read_count lo hi (to_be_bytes w16 (length ps)) (texts ++ tail) (length ps) refl (wide16.again (length ps) (counts b h).0)
    ∙ any_again lo hi ps tail (touched_small b.records h.each)

-- the same, as a call reads them
pub asked : (lo hi : ℕ) (b : Content) (bytes later after : List ℕ) (count : ℕ) (answer : Bool) → IsBlock b → bytes ≡ block_spelling b → later ≡ drop 8 bytes → count ≡ from_be_bytes w16 (take 2 later) → after ≡ drop 2 later
    → answer ≡ any_at lo hi count after → answer ≡ touches_between lo hi b
asked lo hi b bytes later after count answer h spelled later-is count-is after-is given =
    let read : any_at lo hi count after ≡ any_at lo hi (from_be_bytes w16 (take 2 later)) (drop 2 later) = rw (count-is, after-is) refl in
    given ∙ read ∙ ap (λ (front : List ℕ). any_at lo hi (from_be_bytes w16 (take 2 front)) (drop 2 front)) (later-is ∙ ap (drop 8) spelled) ∙ read_annotations lo hi b h
