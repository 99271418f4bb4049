-- Records that are read are the ones that were written, and records with a spelling are read again.
use Rattle.std.proofs.Common.{◌≡◌, ℕ, zero, suc, ◌+◌, ◌^◌, ◌<◌, ◌≤◌, Bool, true, false, cond, ltb, eqb, ◌⊎◌, inl, inr, List, [], ◌∷◌, ◌++◌, length, take, drop, Result, Ok, Err, refl, sym, ap, subst, ◌∙◌, append_assoc, arith}
use Rattle.std.specs.List.{flat_map, AllByRecursion}
use Rattle.std.specs.Int.{w16, w32, to_be_bytes}
use Rattle.std.proofs.lemmas.Bool.{ltb-false, le-ltb, eqb-true}
use Rattle.std.proofs.lemmas.Bool.Decides.{nat_tests}
use Rattle.std.proofs.lemmas.List.{length-append, length-take, take_at, drop_at, take-append-drop}
use Rattle.std.proofs.lemmas.List.Concat.{flat_map-cons}
use Rattle.pl_block.specs.declared.fault.Fault.{Fault}
use Rattle.pl_block.specs.declared.fault.Fault.TheVariants.{EndsInField, UnknownKind, EmptyPut, PutPastPage}
use Rattle.pl_block.specs.declared.record.Record.{Record}
use Rattle.pl_block.specs.declared.record.Record.TheVariants.{Put, Zero}
use Rattle.pl_block.specs.Block.{IsRecord}
use Rattle.pl_block.specs.Spelling.{record_spelling}
use Rattle.pl_block.specs.Laws.{AreBytes}
use Rattle.pl_block.specs.Faults.{◌>>=◌}
use Rattle.pl_block.specs.Reading.{number_at, put_fault, put_at, zero_at, record_at, records_at}
use Rattle.pl_block.proofs.Fields.{AreBytes-drop, bind_ok, guard_ok, ok_is, IsFront, IsFront-then, wide16, wide32, number_takes, number_again}

-- a Put that passes its test has at least one byte, and ends within the page
pub put_fault-ok : (offset len : ℕ) (u : Unit {0}) → put_fault offset len ≡ Ok u → (0 < len) × (offset + len ≤ 8192)
put_fault-ok offset len u e =
    let some = guard_ok (eqb len 0) EmptyPut (cond (ltb 8192 (offset + len)) (Err PutPastPage) (Ok tt)) u e in
    let within = guard_ok (ltb 8192 (offset + len)) PutPastPage (Ok tt) u some.1 in
    (grind (arith, nat_tests, some.0), ltb-false _ _ within.0)

pub put_fault-none : (offset len : ℕ) → 0 < len → offset + len ≤ 8192 → put_fault offset len ≡ Ok tt
put_fault-none offset len some within =
    let filled : eqb len 0 ≡ false = grind (arith, nat_tests) in
    let ends : ltb 8192 (offset + len) ≡ false = le-ltb _ _ within in
    rw (filled, ends) refl

-- the bytes of a Put, taken from the front
bytes_take : (len : ℕ) (bytes : List ℕ) → AreBytes bytes → len ≤ length bytes → IsFront bytes (take len bytes) (drop len bytes) × (length (take len bytes) ≡ len)
bytes_take len bytes fits long = (record { parts = sym (take-append-drop len bytes); rest_fits = AreBytes-drop len bytes fits }, omega (arith, length-take len bytes))

abbrev put_text : ℕ → ℕ → List ℕ → List ℕ
put_text page offset bytes = to_be_bytes w32 page ++ (to_be_bytes w16 offset ++ (to_be_bytes w16 (length bytes) ++ bytes))

-- a Put without its kind
abbrev IsPut : List ℕ → Record → List ℕ → Type 0
IsPut bytes (Put page offset text) rest = IsFront bytes (put_text page offset text) rest × IsRecord (Put page offset text)
IsPut bytes (Zero page) rest = ⊥

put_takes : (bytes : List ℕ) (x : Record × List ℕ) → AreBytes bytes → put_at bytes ≡ Ok x → IsPut bytes x.0 x.1
unfolding put_at
put_takes bytes x fits e =
    let a = bind_ok (number_at w32 bytes) (λ page. number_at w16 page.1 >>= λ offset. number_at w16 offset.1 >>= λ len. put_fault offset.0 len.0 >>= λ _. cond (ltb (length len.1) len.0) (Err EndsInField) (Ok (Put page.0 offset.0 (take len.0 len.1), drop len.0 len.1))) x e in
    let b = bind_ok (number_at w16 a.value.1) (λ offset. number_at w16 offset.1 >>= λ len. put_fault offset.0 len.0 >>= λ _. cond (ltb (length len.1) len.0) (Err EndsInField) (Ok (Put a.value.0 offset.0 (take len.0 len.1), drop len.0 len.1))) x a.next in
    let c = bind_ok (number_at w16 b.value.1) (λ len. put_fault b.value.0 len.0 >>= λ _. cond (ltb (length len.1) len.0) (Err EndsInField) (Ok (Put a.value.0 b.value.0 (take len.0 len.1), drop len.0 len.1))) x b.next in
    let d = bind_ok (put_fault b.value.0 c.value.0) (λ _. cond (ltb (length c.value.1) c.value.0) (Err EndsInField) (Ok (Put a.value.0 b.value.0 (take c.value.0 c.value.1), drop c.value.0 c.value.1))) x c.next in
    let g = guard_ok (ltb (length c.value.1) c.value.0) EndsInField (Ok (Put a.value.0 b.value.0 (take c.value.0 c.value.1), drop c.value.0 c.value.1)) x d.next in
    let tested = put_fault-ok b.value.0 c.value.0 d.value d.first in
    let page = number_takes w32 (2 ^ 32) wide32 bytes a.value.0 a.value.1 fits a.first in
    let offset = number_takes w16 (2 ^ 16) wide16 a.value.1 b.value.0 b.value.1 page.0.rest_fits b.first in
    let len = number_takes w16 (2 ^ 16) wide16 b.value.1 c.value.0 c.value.1 offset.0.rest_fits c.first in
    let text = bytes_take c.value.0 c.value.1 len.0.rest_fits (ltb-false _ _ g.0) in
    let three = IsFront-then b.value.1 (to_be_bytes w16 c.value.0) c.value.1 (take c.value.0 c.value.1) (drop c.value.0 c.value.1) len.0 text.0 in
    let counted : IsFront b.value.1 (to_be_bytes w16 (length (take c.value.0 c.value.1)) ++ take c.value.0 c.value.1) (drop c.value.0 c.value.1) = subst (λ (k : ℕ). IsFront b.value.1 (to_be_bytes w16 k ++ take c.value.0 c.value.1) (drop c.value.0 c.value.1)) (sym text.1) three in
    let two = IsFront-then a.value.1 (to_be_bytes w16 b.value.0) b.value.1 (to_be_bytes w16 (length (take c.value.0 c.value.1)) ++ take c.value.0 c.value.1) (drop c.value.0 c.value.1) offset.0 counted in
    let all = IsFront-then bytes (to_be_bytes w32 a.value.0) a.value.1 (to_be_bytes w16 b.value.0 ++ (to_be_bytes w16 (length (take c.value.0 c.value.1)) ++ take c.value.0 c.value.1)) (drop c.value.0 c.value.1) page.0 two in
    subst (λ (y : Record × List ℕ). IsPut bytes y.0 y.1) (ok_is (Put a.value.0 b.value.0 (take c.value.0 c.value.1), drop c.value.0 c.value.1) x g.1) (all, (page.1, omega (arith, text.1, tested.0), omega (arith, text.1, tested.1)))

put_again : (page offset : ℕ) (bytes rest : List ℕ) → IsRecord (Put page offset bytes) → put_at (put_text page offset bytes ++ rest) ≡ Ok (Put page offset bytes, rest)
unfolding put_at
put_again page offset bytes rest h =
    let counted = to_be_bytes w16 (length bytes) in
    let placed = to_be_bytes w16 offset in
    let third : (counted ++ bytes) ++ rest ≡ counted ++ (bytes ++ rest) = append_assoc counted bytes rest in
    let second : (placed ++ (counted ++ bytes)) ++ rest ≡ placed ++ (counted ++ (bytes ++ rest)) = append_assoc placed (counted ++ bytes) rest ∙ ap (λ (t : List ℕ). placed ++ t) third in
    let regrouped : put_text page offset bytes ++ rest ≡ to_be_bytes w32 page ++ (placed ++ (counted ++ (bytes ++ rest))) = append_assoc (to_be_bytes w32 page) (placed ++ (counted ++ bytes)) rest ∙ ap (λ (t : List ℕ). to_be_bytes w32 page ++ t) second in
    let long : ltb (length (bytes ++ rest)) (length bytes) ≡ false = le-ltb _ _ (omega (arith, length-append bytes rest)) in
    ap put_at regrouped ∙ rw (
      number_again w32 (2 ^ 32) wide32 page (placed ++ (counted ++ (bytes ++ rest))) h.0,
      number_again w16 (2 ^ 16) wide16 offset (counted ++ (bytes ++ rest)) (omega (arith, h.1, h.2)),
      number_again w16 (2 ^ 16) wide16 (length bytes) (bytes ++ rest) (omega (arith, h.2)),
      put_fault-none offset (length bytes) h.1 h.2,
      long,
      take_at bytes rest (length bytes) refl,
      drop_at bytes rest (length bytes) refl,
    ) refl

AreBytes-rest : (b : ℕ) (bytes : List ℕ) → AreBytes (b ∷ bytes) → AreBytes bytes
AreBytes-rest b bytes h i = h (suc i)

-- a Put with its kind
kind_put : (r : Record) (bytes rest : List ℕ) → IsPut bytes r rest → IsFront (1 ∷ bytes) (record_spelling r) rest × IsRecord r
kind_put (Put page offset text) bytes rest h = (record { parts = ap (λ (t : List ℕ). 1 ∷ t) h.0.parts; rest_fits = h.0.rest_fits }, h.1)
kind_put (Zero page) bytes rest h = absurd h

-- a Zero with its kind
zero_takes : (bytes : List ℕ) (x : Record × List ℕ) → AreBytes bytes → zero_at bytes ≡ Ok x → IsFront (2 ∷ bytes) (record_spelling x.0) x.1 × IsRecord x.0
unfolding zero_at
zero_takes bytes x fits e =
    let a = bind_ok (number_at w32 bytes) (λ page. Ok (Zero page.0, page.1)) x e in
    let page = number_takes w32 (2 ^ 32) wide32 bytes a.value.0 a.value.1 fits a.first in
    let front : IsFront (2 ∷ bytes) (record_spelling (Zero a.value.0)) a.value.1 = record { parts = ap (λ (t : List ℕ). 2 ∷ t) page.0.parts; rest_fits = page.0.rest_fits } in
    subst (λ (y : Record × List ℕ). IsFront (2 ∷ bytes) (record_spelling y.0) y.1 × IsRecord y.0) (ok_is (Zero a.value.0, a.value.1) x a.next) (front, page.1)

zero_again : (page : ℕ) (rest : List ℕ) → IsRecord (Zero page) → zero_at (to_be_bytes w32 page ++ rest) ≡ Ok (Zero page, rest)
unfolding zero_at
zero_again page rest h = rw (number_again w32 (2 ^ 32) wide32 page rest h) refl

-- a kind that is known is 1 or 2
known_kind : (is_put is_zero : Bool) (put zeroed : Result (Record × List ℕ) Fault) (x : Record × List ℕ) → cond is_put put (cond is_zero zeroed (Err UnknownKind)) ≡ Ok x → ((is_put ≡ true) × (put ≡ Ok x)) ⊎ ((is_zero ≡ true) × (zeroed ≡ Ok x))
known_kind true is_zero put zeroed x e = inl (refl, e)
known_kind false true put zeroed x e = inr (refl, e)
known_kind false false put zeroed x e = absurd cc

pub record_takes : (bytes : List ℕ) (x : Record × List ℕ) → AreBytes bytes → record_at bytes ≡ Ok x → IsFront bytes (record_spelling x.0) x.1 × IsRecord x.0
unfolding record_at
record_takes [] x fits e = absurd cc
record_takes (kind ∷ bytes) x fits e =
    let rest_fits = AreBytes-rest kind bytes fits in
    elim (known_kind (eqb kind 1) (eqb kind 2) (put_at bytes) (zero_at bytes) x e) [
      | inl is ↦ subst (λ (k : ℕ). IsFront (k ∷ bytes) (record_spelling x.0) x.1 × IsRecord x.0) (sym (eqb-true kind 1 is.0)) (kind_put x.0 bytes x.1 (put_takes bytes x rest_fits is.1))
      | inr is ↦ subst (λ (k : ℕ). IsFront (k ∷ bytes) (record_spelling x.0) x.1 × IsRecord x.0) (sym (eqb-true kind 2 is.0)) (zero_takes bytes x rest_fits is.1)
    ]

pub record_again : (r : Record) (rest : List ℕ) → IsRecord r → record_at (record_spelling r ++ rest) ≡ Ok (r, rest)
unfolding record_at
record_again (Put page offset bytes) rest h = put_again page offset bytes rest h
record_again (Zero page) rest h = zero_again page rest h

pub records_take : (n : ℕ) (bytes : List ℕ) (x : List Record × List ℕ) → AreBytes bytes → records_at n bytes ≡ Ok x → IsFront bytes (flat_map record_spelling x.0) x.1 × (length x.0 ≡ n) × AllByRecursion IsRecord x.0
unfolding records_at
records_take zero bytes x fits e =
    subst (λ (y : List Record × List ℕ). IsFront bytes (flat_map record_spelling y.0) y.1 × (length y.0 ≡ 0) × AllByRecursion IsRecord y.0) (ok_is ([], bytes) x e) (record { parts = refl; rest_fits = fits }, refl, tt)
records_take (suc n) bytes x fits e =
    let a = bind_ok (record_at bytes) (λ first. records_at n first.1 >>= λ others. Ok (first.0 ∷ others.0, others.1)) x e in
    let b = bind_ok (records_at n a.value.1) (λ others. Ok (a.value.0 ∷ others.0, others.1)) x a.next in
    let first = record_takes bytes a.value fits a.first in
    let others = records_take n a.value.1 b.value first.0.rest_fits b.first in
    let all = IsFront-then bytes (record_spelling a.value.0) a.value.1 (flat_map record_spelling b.value.0) b.value.1 first.0 others.0 in
    let whole : IsFront bytes (flat_map record_spelling (a.value.0 ∷ b.value.0)) b.value.1 = subst (λ (t : List ℕ). IsFront bytes t b.value.1) (sym (flat_map-cons record_spelling a.value.0 b.value.0)) all in
    subst (λ (y : List Record × List ℕ). IsFront bytes (flat_map record_spelling y.0) y.1 × (length y.0 ≡ suc n) × AllByRecursion IsRecord y.0) (ok_is (a.value.0 ∷ b.value.0, b.value.1) x b.next) (whole, omega (arith, others.1), (first.1, others.2))

pub records_again : (records : List Record) (rest : List ℕ) → AllByRecursion IsRecord records → records_at (length records) (flat_map record_spelling records ++ rest) ≡ Ok (records, rest)
unfolding records_at
records_again [] rest h = refl
records_again (r ∷ rs) rest h =
    let regrouped : flat_map record_spelling (r ∷ rs) ++ rest ≡ record_spelling r ++ (flat_map record_spelling rs ++ rest) = ap (λ (x : List ℕ). x ++ rest) (flat_map-cons record_spelling r rs) ∙ append_assoc (record_spelling r) (flat_map record_spelling rs) rest in
    ap (records_at (suc (length rs))) regrouped ∙ rw (record_again r (flat_map record_spelling rs ++ rest) h.0, records_again rs rest h.1) refl
