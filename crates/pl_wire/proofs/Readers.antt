-- Readers of fields: what is read is spelled so, and what is spelled so is read again.
use Rattle.std.proofs.Common.{◌≡◌, ℕ, zero, suc, ◌^◌, ◌<◌, ◌≤◌, Bool, false, cond, ltb, List, [], ◌∷◌, ◌++◌, length, take, drop, Option, Result, Ok, Err, refl, sym, ap, subst, ◌∙◌, append_assoc, arith}
use Rattle.std.specs.List.{flat_map, AllByRecursion}
use Rattle.std.specs.Option.{ok_or}
use Rattle.std.specs.Int.{Width, w16, w32, w64, byte_len, from_be_bytes, to_be_bytes}
use Rattle.std.proofs.lemmas.Bool.{ltb-false, le-ltb}
use Rattle.std.proofs.lemmas.List.{length-append, length-take, take_at, drop_at, take-append-drop}
use Rattle.std.proofs.lemmas.List.Concat.{flat_map-cons}
use Rattle.pl_block.specs.Faults.{◌>>=◌}
use Rattle.pl_block.specs.Laws.{AreBytes}
use Rattle.pl_wire.specs.declared.fault.WireFault.{WireFault}
use Rattle.pl_wire.specs.declared.fault.WireFault.TheVariants.{EndsInField, OutOfRange}
use Rattle.pl_wire.specs.ReplyReading.{byte_at, bytes_taken, count_at, each_at, number_taken, one_at}
use Rattle.pl_wire.proofs.Steps.{bind_ok, bound, done, guard_ok, ok_is, ok_or-some}
use Rattle.pl_wire.proofs.Numbers.{IsNumbered}
use Rattle.pl_wire.proofs.Places.{AreBytes-drop, AreBytes-take, IsWide, wide16, wide32, wide64}

-- a text at the front, and the bytes after it
pub record IsFront (bytes text rest : List ℕ) : Type 0 where
  pub parts : bytes ≡ text ++ rest
  pub rest_fits : AreBytes rest

-- one text after another
pub two : {bytes a after b rest : List ℕ} → IsFront bytes a after → IsFront after b rest → IsFront bytes (a ++ b) rest
two {a = a} {b = b} {rest = rest} p q = record { parts = p.parts ∙ ap (λ (t : List ℕ). a ++ t) q.parts ∙ sym (append_assoc a b rest); rest_fits = q.rest_fits }

-- a reader and a spelling determine one another
pub record Tells {X : Type 0} (read : List ℕ → Result (X × List ℕ) WireFault) (spell : X → List ℕ) (Fits : X → Type 0) : Type 0 where
  pub takes : (bytes : List ℕ) (x : X × List ℕ) → AreBytes bytes → read bytes ≡ Ok x → IsFront bytes (spell x.0) x.1 × Fits x.0
  pub again : (x : X) (rest : List ℕ) → Fits x → read (spell x ++ rest) ≡ Ok (x, rest)

-- if a field was read, and then what follows it: the field, and the bytes after it
pub read_then : {X Z R : Type 0} {read : List ℕ → Result (X × List ℕ) WireFault} {spell : X → List ℕ} {Fits : X → Type 0} → Tells read spell Fits → (bytes : List ℕ) (k : X × List ℕ → Result Z WireFault) (z : Z) → AreBytes bytes → (read bytes >>= k) ≡ Ok z
    → ((x : X) (rest : List ℕ) → IsFront bytes (spell x) rest → Fits x → k (x, rest) ≡ Ok z → R) → R
read_then {read = read} tells bytes k z fits e f =
    let b = bind_ok (read bytes) k z e in
    let t = tells.takes bytes b.value fits b.first in
    f b.value.0 b.value.1 t.0 t.1 b.next

-- a field is read again, and then what follows it
pub again_then : {X Z : Type 0} {read : List ℕ → Result (X × List ℕ) WireFault} {spell : X → List ℕ} {Fits : X → Type 0} → Tells read spell Fits → (x : X) (rest : List ℕ) (k : X × List ℕ → Result Z WireFault) → Fits x → (read (spell x ++ rest) >>= k) ≡ k (x, rest)
again_then tells x rest k fits = ap (λ (r : Result _ WireFault). r >>= k) (tells.again x rest fits)

-- ---- bytes and numbers

pub bytes_take : (n : ℕ) (bytes : List ℕ) (x : List ℕ × List ℕ) → AreBytes bytes → bytes_taken n bytes ≡ Ok x → IsFront bytes x.0 x.1 × (length x.0 ≡ n) × AreBytes x.0
bytes_take n bytes x fits e =
    let g = guard_ok (ltb (length bytes) n) EndsInField (Ok (take n bytes, drop n bytes)) x e in
    let front : IsFront bytes (take n bytes) (drop n bytes) = record { parts = sym (take-append-drop n bytes); rest_fits = AreBytes-drop n bytes fits } in
    let long : n ≤ length bytes = ltb-false _ _ g.0 in
    subst (λ (y : List ℕ × List ℕ). IsFront bytes y.0 y.1 × (length y.0 ≡ n) × AreBytes y.0) (ok_is (take n bytes, drop n bytes) x g.1) (front, omega (arith, length-take n bytes), AreBytes-take n bytes fits)

pub bytes_again : (n : ℕ) (text rest : List ℕ) → length text ≡ n → bytes_taken n (text ++ rest) ≡ Ok (text, rest)
bytes_again n text rest len =
    let long : ltb (length (text ++ rest)) n ≡ false = le-ltb _ _ (omega (arith, length-append text rest)) in
    rw (long, take_at text rest n len, drop_at text rest n len) refl

pub number_tells : (w : Width) (limit : ℕ) → IsWide w limit → Tells (number_taken w) (to_be_bytes w) (λ n. n < limit)
number_tells w limit wide = record {
  takes = λ bytes x fits e.
      let b = bind_ok (bytes_taken (byte_len w) bytes) (λ text. Ok (from_be_bytes w text.0, text.1)) x e in
      let t = bytes_take (byte_len w) bytes b.value fits b.first in
      let spelled : IsFront bytes (to_be_bytes w (from_be_bytes w b.value.0)) b.value.1 = subst (λ (text : List ℕ). IsFront bytes text b.value.1) (sym (wide.back b.value.0 t.1 t.2)) t.0 in
      subst (λ (y : ℕ × List ℕ). IsFront bytes (to_be_bytes w y.0) y.1 × (y.0 < limit)) (ok_is (from_be_bytes w b.value.0, b.value.1) x b.next) (spelled, wide.below b.value.0 t.2);
  again = λ n rest fits.
      ap (λ (r : Result (List ℕ × List ℕ) WireFault). r >>= λ text. done (from_be_bytes w text.0, text.1)) (bytes_again (byte_len w) (to_be_bytes w n) rest (wide.len n))
      ∙ ap (λ (m : ℕ). done (m, rest)) (wide.again n fits);
}

pub number16 : Tells (number_taken w16) (to_be_bytes w16) (λ n. n < 2 ^ 16)
number16 = number_tells w16 (2 ^ 16) wide16

pub number32 : Tells (number_taken w32) (to_be_bytes w32) (λ n. n < 2 ^ 32)
number32 = number_tells w32 (2 ^ 32) wide32

pub number64 : Tells (number_taken w64) (to_be_bytes w64) (λ n. n < 2 ^ 64)
number64 = number_tells w64 (2 ^ 64) wide64

byte_takes : (bytes : List ℕ) (x : ℕ × List ℕ) → AreBytes bytes → byte_at bytes ≡ Ok x → IsFront bytes (x.0 ∷ []) x.1 × (x.0 < 256)
byte_takes [] x fits e = absurd cc
byte_takes (b ∷ bytes) x fits e = subst (λ (y : ℕ × List ℕ). IsFront (b ∷ bytes) (y.0 ∷ []) y.1 × (y.0 < 256)) (ok_is (b, bytes) x e) (record { parts = refl; rest_fits = λ i. fits (suc i) }, fits 0)

pub byte : Tells byte_at (λ b. b ∷ []) (λ b. b < 256)
byte = record { takes = byte_takes; again = λ b rest fits. refl }

-- ---- counts and codes

count_takes : (most : ℕ) (bytes : List ℕ) (x : ℕ × List ℕ) → AreBytes bytes → count_at most bytes ≡ Ok x → IsFront bytes (to_be_bytes w16 x.0) x.1 × ((x.0 < 2 ^ 16) × (x.0 ≤ most))
unfolding count_at
count_takes most bytes x fits e =
    let b = bind_ok (number_taken w16 bytes) (λ count. cond (ltb most count.0) (Err OutOfRange) (Ok count)) x e in
    let g = guard_ok (ltb most b.value.0) OutOfRange (Ok b.value) x b.next in
    let t = number16.takes bytes b.value fits b.first in
    subst (λ (y : ℕ × List ℕ). IsFront bytes (to_be_bytes w16 y.0) y.1 × ((y.0 < 2 ^ 16) × (y.0 ≤ most))) (ok_is b.value x g.1) (t.0, (t.1, ltb-false _ _ g.0))

count_again : (most n : ℕ) (rest : List ℕ) → (n < 2 ^ 16) × (n ≤ most) → count_at most (to_be_bytes w16 n ++ rest) ≡ Ok (n, rest)
unfolding count_at
count_again most n rest fits =
    let few : ltb most n ≡ false = le-ltb _ _ fits.1 in
    again_then number16 n rest (λ count. cond (ltb most count.0) (Err OutOfRange) (Ok count)) fits.0 ∙ ap (λ (b : Bool). cond b (Err OutOfRange) (done (n, rest))) few

pub count : (most : ℕ) → Tells (count_at most) (to_be_bytes w16) (λ n. (n < 2 ^ 16) × (n ≤ most))
count most = record { takes = count_takes most; again = count_again most }

one_takes : {X : Type 0} (of_number : ℕ → Option X) (number : X → ℕ) → IsNumbered of_number number → (fault : WireFault) (bytes : List ℕ) (x : X × List ℕ) → AreBytes bytes → one_at of_number fault bytes ≡ Ok x → IsFront bytes (number x.0 ∷ []) x.1 × Unit {0}
unfolding one_at
one_takes of_number number is fault bytes x fits e =
    let b = bind_ok (byte_at bytes) (λ n. ok_or (of_number n.0) fault >>= λ y. Ok (y, n.1)) x e in
    let o = bind_ok (ok_or (of_number b.value.0) fault) (λ y. Ok (y, b.value.1)) x b.next in
    let t = byte.takes bytes b.value fits b.first in
    let named : b.value.0 ≡ number o.value = is.told b.value.0 o.value (ok_or-some (of_number b.value.0) fault o.value o.first) in
    subst (λ (y : _ × List ℕ). IsFront bytes (number y.0 ∷ []) y.1 × Unit {0}) (ok_is (o.value, b.value.1) x o.next) (subst (λ (n : ℕ). IsFront bytes (n ∷ []) b.value.1) named t.0, tt)

one_again : {X : Type 0} (of_number : ℕ → Option X) (number : X → ℕ) → IsNumbered of_number number → (fault : WireFault) (x : X) (rest : List ℕ) → Unit {0} → one_at of_number fault (number x ∷ rest) ≡ Ok (x, rest)
unfolding one_at
one_again of_number number is fault x rest fits = rw (is.found x) refl

pub one : {X : Type 0} (of_number : ℕ → Option X) (number : X → ℕ) (fault : WireFault) → IsNumbered of_number number → Tells (one_at of_number fault) (λ x. number x ∷ []) (λ _. Unit {0})
one of_number number fault is = record { takes = one_takes of_number number is fault; again = one_again of_number number is fault }

-- ---- one after the other

each_take : {X : Type 0} {read : List ℕ → Result (X × List ℕ) WireFault} {spell : X → List ℕ} {Fits : X → Type 0} → Tells read spell Fits → (n : ℕ) (bytes : List ℕ) (x : List X × List ℕ) → AreBytes bytes → each_at read n bytes ≡ Ok x → IsFront bytes (flat_map spell x.0) x.1 × ((length x.0 ≡ n) × AllByRecursion Fits x.0)
unfolding each_at
each_take {X = X} {spell = spell} {Fits = Fits} tells zero bytes x fits e =
    subst (λ (y : List X × List ℕ). IsFront bytes (flat_map spell y.0) y.1 × ((length y.0 ≡ 0) × AllByRecursion Fits y.0)) (ok_is ([], bytes) x e) (record { parts = refl; rest_fits = fits }, (refl, tt))
each_take {X = X} {read = read} {spell = spell} {Fits = Fits} tells (suc n) bytes x fits e =
    read_then tells bytes (λ first. each_at read n first.1 >>= λ others. Ok (first.0 ∷ others.0, others.1)) x fits e (λ first after front fit next.
    bound (each_at read n after) (λ others. Ok (first ∷ others.0, others.1)) x next (λ others read_others made.
    let taken = each_take tells n after others front.rest_fits read_others in
    let all : IsFront bytes (flat_map spell (first ∷ others.0)) others.1 = subst (λ (t : List ℕ). IsFront bytes t others.1) (sym (flat_map-cons spell first others.0)) (two front taken.0) in
    subst (λ (y : List X × List ℕ). IsFront bytes (flat_map spell y.0) y.1 × ((length y.0 ≡ suc n) × AllByRecursion Fits y.0)) (ok_is (first ∷ others.0, others.1) x made) (all, (omega (arith, taken.1.0), (fit, taken.1.1)))))

each_again : {X : Type 0} {read : List ℕ → Result (X × List ℕ) WireFault} {spell : X → List ℕ} {Fits : X → Type 0} → Tells read spell Fits → (xs : List X) (rest : List ℕ) → AllByRecursion Fits xs → each_at read (length xs) (flat_map spell xs ++ rest) ≡ Ok (xs, rest)
unfolding each_at
each_again tells [] rest h = refl
each_again {read = read} {spell = spell} tells (x ∷ xs) rest h =
    let regrouped : flat_map spell (x ∷ xs) ++ rest ≡ spell x ++ (flat_map spell xs ++ rest) = ap (λ (t : List ℕ). t ++ rest) (flat_map-cons spell x xs) ∙ append_assoc (spell x) (flat_map spell xs) rest in
    ap (each_at read (suc (length xs))) regrouped
    ∙ again_then tells x (flat_map spell xs ++ rest) (λ first. each_at read (length xs) first.1 >>= λ others. Ok (first.0 ∷ others.0, others.1)) h.0
    ∙ ap (λ (r : Result _ WireFault). r >>= λ others. Ok (x ∷ others.0, others.1)) (each_again tells xs rest h.1)

pub each : {X : Type 0} {read : List ℕ → Result (X × List ℕ) WireFault} {spell : X → List ℕ} {Fits : X → Type 0} → Tells read spell Fits → (n : ℕ) → Tells (each_at read n) (flat_map spell) (λ xs. (length xs ≡ n) × AllByRecursion Fits xs)
each {read = read} {spell = spell} tells n = record {
  takes = each_take tells n;
  again = λ xs rest fits. subst (λ (m : ℕ). each_at read m (flat_map spell xs ++ rest) ≡ Ok (xs, rest)) fits.0 (each_again tells xs rest fits.1);
}
