-- The two laws: what is read as a block is its spelling, and a block is read from its spelling.
use Rattle.std.proofs.Common.{◌≡◌, ℕ, ◌+◌, ◌*◌, ◌^◌, ◌<◌, ◌≤◌, Bool, true, false, cond, ltb, eqb, ◌||◌, List, [], ◌∷◌, ◌++◌, length, Result, Ok, Err, refl, sym, ap, subst, ◌∙◌, arith}
use Rattle.std.specs.Prelude.{IfOk}
use Rattle.std.specs.List.{flat_map, AllByRecursion}
use Rattle.std.specs.Int.{w16, w64, to_be_bytes}
use Rattle.std.specs.Str.{bytes_eq}
use Rattle.std.proofs.lemmas.Bool.{ltb-false, le-ltb}
use Rattle.std.proofs.lemmas.Bool.Decides.{nat_tests}
use Rattle.std.proofs.lemmas.List.{length-append, append-nil, nil_from_length}
use Rattle.std.proofs.lemmas.List.Concat.{flat_map-cons}
use Rattle.std.proofs.lemmas.Slice.Eq.{bytes_eq-Decides}
use Rattle.pl_block.specs.declared.fault.Fault.{Fault}
use Rattle.pl_block.specs.declared.fault.Fault.TheVariants.{NumberOutOfRange, TooLong, BytesAfterEnd, WrongAnnotations}
use Rattle.pl_block.specs.declared.record.Record.{Record}
use Rattle.pl_block.specs.declared.record.Record.TheVariants.{Put, Zero}
use Rattle.pl_block.specs.Bounds.{longest_block}
use Rattle.pl_block.specs.Block.{Content, touched, IsRecord}
use Rattle.pl_block.specs.Spelling.{annotations, record_spelling, block_spelling, IsBlock}
use Rattle.pl_block.specs.Laws.{AreBytes, OneSpelling}
use Rattle.pl_block.specs.declared.fault.Failed.{Failed}
use Rattle.pl_block.specs.Faults.{◌>>=◌, Returns}
use Rattle.pl_block.specs.Reading.{number_at, lsn_fault, len_fault, lsn_at, annotations_at, annotations_fault, records_at, block_reading}
use Rattle.pl_block.proofs.Fields.{bind_ok, guard_ok, ok_is, IsFront, IsFront-then, wide16, wide64, number_takes, number_again}
use Rattle.pl_block.proofs.Touched.{RisesFrom-touched}
use Rattle.pl_block.proofs.Annotations.{length-partitions, annotations_take, annotations_again, touched_small}
use Rattle.pl_block.proofs.Records.{records_take, records_again}

-- ---- lengths

record_spelling-long : (r : Record) → IsRecord r → 5 ≤ length (record_spelling r)
record_spelling-long (Put page offset bytes) h = simp length-append (omega (arith, h.1))
record_spelling-long (Zero page) h = omega arith

pub records_long : (records : List Record) → AllByRecursion IsRecord records → 5 * length records ≤ length (flat_map record_spelling records)
records_long [] h = omega arith
records_long (r ∷ rs) h = rw (flat_map-cons record_spelling r rs, length-append (record_spelling r) (flat_map record_spelling rs)) (omega (arith, records_long rs h.1, record_spelling-long r h.0))

pub length-block_spelling : (b : Content) → length (block_spelling b) ≡ 12 + 2 * length (touched b.records) + length (flat_map record_spelling b.records)
length-block_spelling b = simp length-append (omega (arith, length-partitions (touched b.records)))

-- the same, counted from equal lists
pub length-counted : (lsn : ℕ) (records : List Record) (ps : List ℕ) (rs : List Record) → ps ≡ touched records → rs ≡ records → length (block_spelling (record { lsn = lsn; records = records })) ≡ 12 + 2 * length ps + length (flat_map record_spelling rs)
length-counted lsn records ps rs told all = rw (told, all) (length-block_spelling (record { lsn = lsn; records = records }))

-- both counts of a block are numbers of two bytes
pub counts : (b : Content) → IsBlock b → (length (touched b.records) < 2 ^ 16) × (length b.records < 2 ^ 16)
counts b h =
    let whole = length-block_spelling b in
    let long = records_long b.records h.each in
    let short = h.short in
    (omega arith, omega arith)

-- ---- the number

pub lsn_fault-ok : (lsn : ℕ) (u : Unit {0}) → lsn_fault lsn ≡ Ok u → (0 < lsn) × (lsn ≤ 2 ^ 48)
lsn_fault-ok lsn u e =
    let g = guard_ok (eqb lsn 0 || ltb (2 ^ 48) lsn) NumberOutOfRange (Ok tt) u e in
    (grind (arith, nat_tests, g.0), grind (arith, nat_tests, g.0))

pub lsn_fault-none : (lsn : ℕ) → 0 < lsn → lsn ≤ 2 ^ 48 → lsn_fault lsn ≡ Ok tt
lsn_fault-none lsn some within =
    let filled : eqb lsn 0 ≡ false = grind (arith, nat_tests) in
    let ends : ltb (2 ^ 48) lsn ≡ false = le-ltb _ _ within in
    rw (filled, ends) refl

lsn_takes : (bytes : List ℕ) (x : ℕ × List ℕ) → AreBytes bytes → lsn_at bytes ≡ Ok x → IsFront bytes (to_be_bytes w64 x.0) x.1 × (0 < x.0) × (x.0 ≤ 2 ^ 48)
unfolding lsn_at
lsn_takes bytes x fits e =
    let a = bind_ok (number_at w64 bytes) (λ lsn. lsn_fault lsn.0 >>= λ _. Ok lsn) x e in
    let b = bind_ok (lsn_fault a.value.0) (λ _. Ok a.value) x a.next in
    let front = number_takes w64 (2 ^ 64) wide64 bytes a.value.0 a.value.1 fits a.first in
    let ranged = lsn_fault-ok a.value.0 b.value b.first in
    subst (λ (y : ℕ × List ℕ). IsFront bytes (to_be_bytes w64 y.0) y.1 × (0 < y.0) × (y.0 ≤ 2 ^ 48)) (ok_is a.value x b.next) (front.0, ranged.0, ranged.1)

lsn_again : (lsn : ℕ) (rest : List ℕ) → 0 < lsn → lsn ≤ 2 ^ 48 → lsn_at (to_be_bytes w64 lsn ++ rest) ≡ Ok (lsn, rest)
unfolding lsn_at
lsn_again lsn rest some within = rw (number_again w64 (2 ^ 64) wide64 lsn rest (omega arith), lsn_fault-none lsn some within) refl

-- ---- the whole

passed : {A : Type 0} (b : Bool) (d : Fault) (x y : A) → cond b (Ok x) (Err d) ≡ Ok y → b ≡ true
passed true d x y e = refl
passed false d x y e = absurd cc

pub annotations_fault-ok : (partitions : List ℕ) (records : List Record) (u : Unit {0}) → annotations_fault partitions records ≡ Ok u → partitions ≡ touched records
annotations_fault-ok partitions records u e =
    (bytes_eq-Decides partitions (touched records)).0 (passed (bytes_eq partitions (touched records)) WrongAnnotations tt u e)

-- what is known of four parts that were read one after the other
pub whole_block : (bytes : List ℕ) (lsn : ℕ) (ps : List ℕ) (records : List Record) (after_lsn after_ps after_count : List ℕ)
    → length bytes ≤ 32768 → (0 < lsn) × (lsn ≤ 2 ^ 48) → AllByRecursion IsRecord records → ps ≡ touched records
    → IsFront bytes (to_be_bytes w64 lsn) after_lsn → IsFront after_lsn (annotations ps) after_ps → IsFront after_ps (to_be_bytes w16 (length records)) after_count → IsFront after_count (flat_map record_spelling records) []
    → IsBlock (record { lsn = lsn; records = records }) × (bytes ≡ block_spelling (record { lsn = lsn; records = records }))
whole_block bytes lsn ps records after_lsn after_ps after_count short ranged each same one two three four =
    let c = IsFront-then after_ps (to_be_bytes w16 (length records)) after_count (flat_map record_spelling records) [] three four in
    let d = IsFront-then after_lsn (annotations ps) after_ps (to_be_bytes w16 (length records) ++ flat_map record_spelling records) [] two c in
    let e = IsFront-then bytes (to_be_bytes w64 lsn) after_lsn (annotations ps ++ (to_be_bytes w16 (length records) ++ flat_map record_spelling records)) [] one d in
    let whole : bytes ≡ block_spelling (record { lsn = lsn; records = records }) = e.parts ∙ append-nil (to_be_bytes w64 lsn ++ (annotations ps ++ (to_be_bytes w16 (length records) ++ flat_map record_spelling records))) ∙ ap (λ (qs : List ℕ). to_be_bytes w64 lsn ++ (annotations qs ++ (to_be_bytes w16 (length records) ++ flat_map record_spelling records))) same in
    (record { positive = ranged.0; in_range = ranged.1; each = each; short = subst (λ (t : List ℕ). length t ≤ 32768) whole short }, whole)

pub block_takes : (bytes : List ℕ) (b : Content) → AreBytes bytes → block_reading bytes ≡ Ok b → IsBlock b × (bytes ≡ block_spelling b)
unfolding block_reading
block_takes bytes b fits e =
    let last = λ (lsn : ℕ) (ps : List ℕ) (rs : List Record × List ℕ). cond (ltb 0 (length rs.1)) (Err BytesAfterEnd) (annotations_fault ps rs.0 >>= λ _. Ok (record { lsn = lsn; records = rs.0 })) in
    let g = bind_ok (len_fault (length bytes)) (λ _. lsn_at bytes >>= λ lsn. annotations_at lsn.1 >>= λ ps. number_at w16 ps.1 >>= λ count. records_at count.0 count.1 >>= λ rs. last lsn.0 ps.0 rs) b e in
    let short = ltb-false _ _ (guard_ok (ltb 32768 (length bytes)) TooLong (Ok tt) g.value g.first).0 in
    let l = bind_ok (lsn_at bytes) (λ lsn. annotations_at lsn.1 >>= λ ps. number_at w16 ps.1 >>= λ count. records_at count.0 count.1 >>= λ rs. last lsn.0 ps.0 rs) b g.next in
    let p = bind_ok (annotations_at l.value.1) (λ ps. number_at w16 ps.1 >>= λ count. records_at count.0 count.1 >>= λ rs. last l.value.0 ps.0 rs) b l.next in
    let n = bind_ok (number_at w16 p.value.1) (λ count. records_at count.0 count.1 >>= λ rs. last l.value.0 p.value.0 rs) b p.next in
    let r = bind_ok (records_at n.value.0 n.value.1) (λ rs. last l.value.0 p.value.0 rs) b n.next in
    let ended = guard_ok (ltb 0 (length r.value.1)) BytesAfterEnd (annotations_fault p.value.0 r.value.0 >>= λ _. Ok (record { lsn = l.value.0; records = r.value.0 })) b r.next in
    let tested = bind_ok (annotations_fault p.value.0 r.value.0) (λ _. Ok (record { lsn = l.value.0; records = r.value.0 })) b ended.1 in
    let same = annotations_fault-ok p.value.0 r.value.0 tested.value tested.first in
    let nothing : r.value.1 ≡ [] = nil_from_length r.value.1 (omega (arith, ltb-false _ _ ended.0)) in
    let one = lsn_takes bytes l.value fits l.first in
    let two = annotations_take l.value.1 p.value one.0.rest_fits p.first in
    let three = number_takes w16 (2 ^ 16) wide16 p.value.1 n.value.0 n.value.1 two.rest_fits n.first in
    let four = records_take n.value.0 n.value.1 r.value three.0.rest_fits r.first in
    let counted = subst (λ (k : ℕ). IsFront p.value.1 (to_be_bytes w16 k) n.value.1) (sym four.1) three.0 in
    let closed = subst (λ (t : List ℕ). IsFront n.value.1 (flat_map record_spelling r.value.0) t) nothing four.0 in
    let whole = whole_block bytes l.value.0 p.value.0 r.value.0 l.value.1 p.value.1 n.value.1 short (one.1, one.2) four.2 same one.0 two counted closed in
    subst (λ (x : Content). IsBlock x × (bytes ≡ block_spelling x)) (ok_is (record { lsn = l.value.0; records = r.value.0 }) b tested.next) whole

-- what is read as a block is not too long
pub reading_short : (bytes : List ℕ) (b : Content) → block_reading bytes ≡ Ok b → length bytes ≤ longest_block
unfolding block_reading
reading_short bytes b e =
    let g = bind_ok (len_fault (length bytes)) _ b e in
    ltb-false _ _ (guard_ok (ltb longest_block (length bytes)) TooLong (Ok tt) g.value g.first).0

pub block_again : (b : Content) → IsBlock b → block_reading (block_spelling b) ≡ Ok b
unfolding block_reading
block_again b h =
    let ps = touched b.records in
    let records = flat_map record_spelling b.records in
    let counted = to_be_bytes w16 (length b.records) ++ records in
    let few = counts b h in
    let fits : ltb 32768 (length (block_spelling b)) ≡ false = le-ltb _ _ h.short in
    let number = lsn_again b.lsn (annotations ps ++ counted) h.positive h.in_range in
    let told = annotations_again ps counted (RisesFrom-touched b.records) (touched_small b.records h.each) few.0 in
    let count = number_again w16 (2 ^ 16) wide16 (length b.records) records few.1 in
    let all : records_at (length b.records) records ≡ Ok (b.records, []) = ap (records_at (length b.records)) (sym (append-nil records)) ∙ records_again b.records [] h.each in
    let same : bytes_eq ps ps ≡ true = (bytes_eq-Decides ps ps).1 refl in
    rw (fits, number, told, count, all, same) refl

pub same_spelling : (a b : Content) → IsBlock a → IsBlock b → block_spelling a ≡ block_spelling b → a ≡ b
same_spelling a b is_a is_b e = ok_is a b (sym (block_again a is_a) ∙ ap block_reading e ∙ block_again b is_b)

pub one_spelling : OneSpelling
one_spelling = record { again = block_again; spelled = block_takes; same = same_spelling }

-- ---- as a call answers

pub is_found : (bytes : List ℕ) (r : Result Content (Failed Fault)) → AreBytes bytes → Returns r (block_reading bytes) → IfOk r (λ b. IsBlock b × (bytes ≡ block_spelling b))
is_found bytes (Ok b) fits given = block_takes bytes b fits given
is_found bytes (Err e) fits given = tt

pub is_only : (bytes : List ℕ) (r : Result Content (Failed Fault)) (b : Content) → Returns r (block_reading bytes) → IsBlock b → bytes ≡ block_spelling b → Returns r (Ok b)
is_only bytes r b given is_block e = subst (λ (read : Result Content Fault). Returns r read) (ap block_reading e ∙ block_again b is_block) given
