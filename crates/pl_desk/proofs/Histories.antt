-- How histories go on, and the entries of one pass in them.
use Rattle.std.proofs.Common.{◌≡◌, ◌≢◌, ℕ, ◌<◌, ◌≤◌, eqb, eq-eqb, ne_eqb, List, [], ◌∷◌, ◌++◌, length, filter, refl, sym, ap, subst, ◌∙◌, arith}
use Rattle.std.proofs.lemmas.List.{append_assoc, nil_from_length, length-append}
use Rattle.std.proofs.lemmas.List.Elements.{filter-append}
use Rattle.pl_core.specs.History.{Entry, History, grown}
use Rattle.pl_desk.specs.Growth.{AreOfPasses, GoesOn, own_entries}

-- the entries of the list that are of the pass
abbrev own : ℕ → List Entry → List Entry
own k es = filter (λ (e : Entry). eqb e.line.pass k) es

-- ---- entries of passes

of_passes-append : (n : ℕ) (xs ys : List Entry) → AreOfPasses n xs → AreOfPasses n ys → AreOfPasses n (xs ++ ys)
of_passes-append n [] ys left right = right
of_passes-append n (x ∷ xs) ys left right = (left.0, left.1, of_passes-append n xs ys left.2 right)

of_passes-right : (n : ℕ) (xs ys : List Entry) → AreOfPasses n (xs ++ ys) → AreOfPasses n ys
of_passes-right n [] ys all = all
of_passes-right n (x ∷ xs) ys all = of_passes-right n xs ys all.2

of_passes-more : (n m : ℕ) (xs : List Entry) → n ≤ m → AreOfPasses n xs → AreOfPasses m xs
of_passes-more n m [] le all = tt
of_passes-more n m (x ∷ xs) le all = (all.0, omega (arith, all.1), of_passes-more n m xs le all.2)

own-none : (n k : ℕ) (xs : List Entry) → AreOfPasses n xs → n < k → own k xs ≡ []
own-none n k [] all lt = refl
own-none n k (x ∷ xs) all lt = rw (ne_eqb x.line.pass k (λ e. omega (arith, all.1))) (own-none n k xs all.2 lt)

-- ---- going on

pub goes_on-refl : (n : ℕ) (h : History) → GoesOn n h h
goes_on-refl n h = record { start = refl; more = []; entries = refl; numbered = tt }

pub goes_on-trans : (n : ℕ) (a b c : History) → GoesOn n a b → GoesOn n b c → GoesOn n a c
goes_on-trans n a b c first second = record {
  start = second.start ∙ first.start;
  more = second.more ++ first.more;
  entries = second.entries ∙ ap (λ (es : List Entry). second.more ++ es) first.entries ∙ sym (append_assoc second.more first.more a.entries);
  numbered = of_passes-append n second.more first.more second.numbered first.numbered;
}

pub goes_on-more : (n m : ℕ) (a b : History) → n ≤ m → GoesOn n a b → GoesOn m a b
goes_on-more n m a b le on =
    record { start = on.start; more = on.more; entries = on.entries; numbered = of_passes-more n m on.more le on.numbered }

pub goes_on-grown : (n : ℕ) (h : History) (e : Entry) → 1 ≤ e.line.pass → e.line.pass ≤ n → GoesOn n h (grown h e)
goes_on-grown n h e some few = record { start = refl; more = e ∷ []; entries = refl; numbered = (some, few, tt) }

pub goes_on-length : (n : ℕ) (a b : History) → GoesOn n a b → length a.entries ≤ length b.entries
goes_on-length n a b on = let sizes = ap length on.entries ∙ length-append on.more a.entries in omega (arith, sizes)

-- two lists that are the end of one: the shorter is the end of the longer
split : (xs ys us vs : List Entry) → xs ++ us ≡ ys ++ vs → length us ≤ length vs
    → (zs : List Entry) × (vs ≡ zs ++ us) × (xs ≡ ys ++ zs)
split xs [] us vs e le = (xs, sym e, refl)
split [] (y ∷ ys) us vs e le = absurd (let sizes = ap length e in let sum = length-append ys vs in omega (arith, sizes, sum, le))
split (x ∷ xs) (y ∷ ys) us vs e le =
    let tails : xs ++ us ≡ ys ++ vs = cc in
    let heads : x ≡ y = cc in
    let rest = split xs ys us vs tails le in
    (rest.0, rest.1, (λ i. heads i ∷ rest.2 i))

-- of two histories that one goes on from, the longer goes on from the shorter
pub goes_on-shorter : (n : ℕ) (a b c : History) → GoesOn n a c → GoesOn n b c → length a.entries ≤ length b.entries → GoesOn n a b
goes_on-shorter n a b c first second le =
    let cut = split first.more second.more a.entries b.entries (sym first.entries ∙ second.entries) le in
    record {
      start = sym second.start ∙ first.start;
      more = cut.0;
      entries = cut.1;
      numbered = of_passes-right n second.more cut.0 (subst (AreOfPasses n) cut.2 first.numbered);
    }

-- ---- own entries

own-goes_on : (n k : ℕ) (a b : History) (on : GoesOn n a b) → own_entries b k ≡ own k on.more ++ own_entries a k
own-goes_on n k a b on = ap (own k) on.entries ∙ filter-append (λ (e : Entry). eqb e.line.pass k) on.more a.entries

pub own-with : (k : ℕ) (h : History) (e : Entry) → e.line.pass ≡ k → own_entries (grown h e) k ≡ e ∷ own_entries h k
own-with k h e is = rw (eq-eqb e.line.pass k is) refl

pub own-without : (k : ℕ) (h : History) (e : Entry) → e.line.pass ≢ k → own_entries (grown h e) k ≡ own_entries h k
own-without k h e other = rw (ne_eqb e.line.pass k other) refl

-- a pass whose number is above those of all entries has none of them
pub own-new : (n k : ℕ) (h g : History) → GoesOn n h g → n < k → own_entries g k ≡ own_entries h k
own-new n k h g on lt =
    own-goes_on n k h g on ∙ ap (λ (es : List Entry). es ++ own_entries h k) (own-none n k on.more on.numbered lt)

-- if the end has no more entries of a pass than the beginning, nor has what is between
pub own-between : (n m k : ℕ) (a b c : History) → GoesOn n a b → GoesOn m b c → own_entries c k ≡ own_entries a k → own_entries b k ≡ own_entries a k
own-between n m k a b c first second same =
    let left = own-goes_on n k a b first in
    let right = own-goes_on m k b c second in
    let one = ap length left ∙ length-append (own k first.more) (own_entries a k) in
    let two = ap length right ∙ length-append (own k second.more) (own_entries b k) in
    let all = ap length same in
    let none : own k first.more ≡ [] = nil_from_length (own k first.more) (omega (arith, one, two, all)) in
    left ∙ ap (λ (es : List Entry). es ++ own_entries a k) none
