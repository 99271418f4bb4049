-- Annotations that are read are the ones that were written, and those of a block are read again.
use Rattle.std.proofs.Common.{◌≡◌, ℕ, zero, suc, ◌+◌, ◌*◌, ◌^◌, ◌<◌, false, cond, ltb, List, [], ◌∷◌, ◌++◌, length, map, Ok, Err, refl, sym, ap, subst, ◌∙◌, append_assoc, arith, inl, inr}
use Rattle.std.specs.List.{flat_map, AllByRecursion}
use Rattle.std.specs.Int.{w16, to_be_bytes}
use Rattle.std.proofs.lemmas.Bool.{le-ltb}
use Rattle.std.proofs.lemmas.List.Concat.{flat_map-cons}
use Rattle.pl_block.specs.declared.fault.Fault.TheVariants.{PartitionNotAbove}
use Rattle.pl_block.specs.declared.record.Record.{Record}
use Rattle.pl_block.specs.declared.record.Record.TheVariants.{Put, Zero}
use Rattle.pl_block.specs.Block.{partition_of, touched, IsRecord}
use Rattle.pl_block.specs.Spelling.{annotations}
use Rattle.pl_block.specs.Laws.{AreBytes}
use Rattle.pl_block.specs.Faults.{◌>>=◌}
use Rattle.pl_block.specs.Reading.{number_at, rising_at, annotations_at}
use Rattle.pl_block.proofs.Fields.{bind_ok, guard_ok, ok_is, IsFront, IsFront-then, wide16, number_takes, number_again}
use Rattle.pl_block.proofs.Touched.{RisesFrom, In, In-from_Contains, Contains-from_In, touched_members}

-- two bytes each
pub length-partitions : (ps : List ℕ) → length (flat_map (to_be_bytes w16) ps) ≡ 2 * length ps
length-partitions [] = refl
length-partitions (p ∷ ps) = omega (arith, length-partitions ps)

pub rising_takes : (n low : ℕ) (bytes : List ℕ) (x : List ℕ × List ℕ) → AreBytes bytes → rising_at n low bytes ≡ Ok x → IsFront bytes (flat_map (to_be_bytes w16) x.0) x.1 × (length x.0 ≡ n)
unfolding rising_at
rising_takes zero low bytes x fits e =
    subst (λ (y : List ℕ × List ℕ). IsFront bytes (flat_map (to_be_bytes w16) y.0) y.1 × (length y.0 ≡ 0)) (ok_is ([], bytes) x e) (record { parts = refl; rest_fits = fits }, refl)
rising_takes (suc n) low bytes x fits e =
    let a = bind_ok (number_at w16 bytes) (λ first. cond (ltb first.0 low) (Err PartitionNotAbove) (rising_at n (first.0 + 1) first.1 >>= λ others. Ok (first.0 ∷ others.0, others.1))) x e in
    let g = guard_ok (ltb a.value.0 low) PartitionNotAbove (rising_at n (a.value.0 + 1) a.value.1 >>= λ others. Ok (a.value.0 ∷ others.0, others.1)) x a.next in
    let b = bind_ok (rising_at n (a.value.0 + 1) a.value.1) (λ others. Ok (a.value.0 ∷ others.0, others.1)) x g.1 in
    let first = number_takes w16 (2 ^ 16) wide16 bytes a.value.0 a.value.1 fits a.first in
    let others = rising_takes n (a.value.0 + 1) a.value.1 b.value first.0.rest_fits b.first in
    let all = IsFront-then bytes (to_be_bytes w16 a.value.0) a.value.1 (flat_map (to_be_bytes w16) b.value.0) b.value.1 first.0 others.0 in
    let whole : IsFront bytes (flat_map (to_be_bytes w16) (a.value.0 ∷ b.value.0)) b.value.1 = subst (λ (t : List ℕ). IsFront bytes t b.value.1) (sym (flat_map-cons (to_be_bytes w16) a.value.0 b.value.0)) all in
    subst (λ (y : List ℕ × List ℕ). IsFront bytes (flat_map (to_be_bytes w16) y.0) y.1 × (length y.0 ≡ suc n)) (ok_is (a.value.0 ∷ b.value.0, b.value.1) x b.next) (whole, omega (arith, others.1))

pub rising_again : (low : ℕ) (ps rest : List ℕ) → RisesFrom low ps → ((p : ℕ) → In p ps → p < 2 ^ 16) → rising_at (length ps) low (flat_map (to_be_bytes w16) ps ++ rest) ≡ Ok (ps, rest)
unfolding rising_at
rising_again low [] rest rises fits = refl
rising_again low (p ∷ ps) rest rises fits =
    let regrouped : flat_map (to_be_bytes w16) (p ∷ ps) ++ rest ≡ to_be_bytes w16 p ++ (flat_map (to_be_bytes w16) ps ++ rest) = ap (λ (x : List ℕ). x ++ rest) (flat_map-cons (to_be_bytes w16) p ps) ∙ append_assoc (to_be_bytes w16 p) (flat_map (to_be_bytes w16) ps) rest in
    let above : ltb p low ≡ false = le-ltb _ _ rises.0 in
    ap (rising_at (suc (length ps)) low) regrouped ∙ rw (number_again w16 (2 ^ 16) wide16 p (flat_map (to_be_bytes w16) ps ++ rest) (fits p (inl refl)), above, rising_again (p + 1) ps rest rises.1 (λ q i. fits q (inr i))) refl

pub annotations_take : (bytes : List ℕ) (x : List ℕ × List ℕ) → AreBytes bytes → annotations_at bytes ≡ Ok x → IsFront bytes (annotations x.0) x.1
unfolding annotations_at
annotations_take bytes x fits e =
    let a = bind_ok (number_at w16 bytes) (λ count. rising_at count.0 0 count.1) x e in
    let first = number_takes w16 (2 ^ 16) wide16 bytes a.value.0 a.value.1 fits a.first in
    let others = rising_takes a.value.0 0 a.value.1 x first.0.rest_fits a.next in
    let all = IsFront-then bytes (to_be_bytes w16 a.value.0) a.value.1 (flat_map (to_be_bytes w16) x.0) x.1 first.0 others.0 in
    subst (λ (k : ℕ). IsFront bytes (to_be_bytes w16 k ++ flat_map (to_be_bytes w16) x.0) x.1) (sym others.1) all

pub annotations_again : (ps rest : List ℕ) → RisesFrom 0 ps → ((p : ℕ) → In p ps → p < 2 ^ 16) → length ps < 2 ^ 16 → annotations_at (annotations ps ++ rest) ≡ Ok (ps, rest)
unfolding annotations_at
annotations_again ps rest rises fits few =
    let texts = flat_map (to_be_bytes w16) ps in
    let regrouped : annotations ps ++ rest ≡ to_be_bytes w16 (length ps) ++ (texts ++ rest) = append_assoc (to_be_bytes w16 (length ps)) texts rest in
    ap annotations_at regrouped ∙ rw (number_again w16 (2 ^ 16) wide16 (length ps) (texts ++ rest) few) (rising_again 0 ps rest rises fits)

-- ---- partitions are numbers of two bytes

partition_of-small : (r : Record) → IsRecord r → partition_of r < 2 ^ 16
partition_of-small (Put page offset bytes) h = omega (arith, h.0)
partition_of-small (Zero page) h = omega (arith, h)

partitions_small : (records : List Record) → AllByRecursion IsRecord records → (p : ℕ) → In p (map partition_of records) → p < 2 ^ 16
partitions_small [] h p i = absurd i
partitions_small (r ∷ rs) h p (inl e) = rw (← e) (partition_of-small r h.0)
partitions_small (r ∷ rs) h p (inr i) = partitions_small rs h.1 p i

pub touched_small : (records : List Record) → AllByRecursion IsRecord records → (p : ℕ) → In p (touched records) → p < 2 ^ 16
touched_small records h p i = partitions_small records h p (In-from_Contains p (map partition_of records) ((touched_members p records).0 (Contains-from_In p (touched records) i)))
