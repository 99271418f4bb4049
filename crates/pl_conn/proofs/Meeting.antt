-- Passes of several desks that stay at their desks, and meet one after the other.
use Rattle.std.proofs.Common.{◌≡◌, ℕ, ◌<◌, ◌≤◌, ◌+◌, inl, inr, List, [], ◌∷◌, ◌++◌, length, get_or, set, Some, append_assoc, append-nil, refl, sym, ap, subst, ◌∙◌, arith}
use Rattle.std.proofs.lemmas.List.{length-set, length-append}
use Rattle.std.proofs.lemmas.Bool.Decides.{eqb_tells}
use Rattle.std.proofs.lemmas.Option.{slice_get_within, slice_get_read}
use Rattle.std.specs.Prelude.{slice_get}
use Rattle.pl_desk.specs.Passes.{Knowledge, DeskOrigin, IsOf, IsSamePass, HasMet}
use Rattle.pl_conn.specs.Desks.{ArePassesOf, HaveMet}
use Rattle.pl_conn.proofs.Places.{get-set_same, get-set_other, get-seam}

same_is_of : (desk : DeskOrigin) (p q : Knowledge) → IsOf desk p → IsSamePass p q → IsOf desk q
same_is_of desk p q of same = (same.desk ∙ of.0, same.terms ∙ of.1)

-- if one pass has become another state of the same pass, the passes are of their desks
pub of-set : (desks : List DeskOrigin) (passes : List Knowledge) (k : ℕ) (p q : Knowledge) → ArePassesOf desks passes → slice_get passes k ≡ Some p → IsSamePass p q → ArePassesOf desks (set passes k q)
of-set desks passes k p q of is same = record {
  count = length-set passes k q ∙ of.count;
  each = λ i desk pass at there. elim (eqb_tells i k) [
    | inl h ↦
        let here : i ≡ k = h.1 in
        let new : slice_get (set passes k q) k ≡ Some q = get-set_same passes k q (slice_get_within passes k p is) in
        let there' : slice_get (set passes k q) k ≡ Some pass = subst (λ (j : ℕ). slice_get (set passes k q) j ≡ Some pass) here there in
        let at' : slice_get desks k ≡ Some desk = subst (λ (j : ℕ). slice_get desks j ≡ Some desk) here at in
        let equal : q ≡ pass = cc in
        subst (IsOf desk) equal (same_is_of desk p q (of.each k desk p at' is) same)
    | inr h ↦ of.each i desk pass at (sym (get-set_other passes k i q h.1) ∙ there)
  ];
}

-- the passes after those that are left have met; the others are as they were
pub record Meeting (desks : List DeskOrigin) (before others now left : List Knowledge) : Type 0 where
  pub of : ArePassesOf desks now
  pub count : length now ≡ length before
  pub rest : List Knowledge
  pub all : left ++ rest ≡ others
  pub below : (i : ℕ) → i < length left → slice_get now i ≡ slice_get before i
  pub met : (i : ℕ) (p o : Knowledge) → length left ≤ i → slice_get before i ≡ Some p → slice_get others i ≡ Some o
      → (q : Knowledge) × (slice_get now i ≡ Some q) × IsSamePass p q × HasMet p o q

pub meeting_start : (desks : List DeskOrigin) (before others : List Knowledge) → ArePassesOf desks before → ArePassesOf desks others → Meeting desks before others before others
meeting_start desks before others of of_others = record {
  of = of;
  count = refl;
  rest = [];
  all = append-nil others;
  below = λ i less. refl;
  met = λ i p o from at there. absurd (let less : i < length others = slice_get_within others i o there in omega (arith, less, from));
}

-- one more has met, with the last of the others that are left
pub meeting_more : (desks : List DeskOrigin) (before others now left : List Knowledge) (p o q : Knowledge)
    → Meeting desks before others now (left ++ o ∷ []) → slice_get now (length left) ≡ Some p → IsSamePass p q → HasMet p o q
    → Meeting desks before others (set now (length left) q) left
meeting_more desks before others now left p o q m is same has = record {
  of = of-set desks now k p q m.of is same;
  count = length-set now k q ∙ m.count;
  rest = o ∷ m.rest;
  all = all;
  below = λ i less. get-set_other now k i q (λ e. omega (arith, e, less)) ∙ m.below i (omega (arith, less, size));
  met = λ i p' o' from at there. elim (eqb_tells i k) [
    | inl h ↦ here i p' o' h.1 at there
    | inr h ↦ let away = h.1 in
        let past : length (left ++ o ∷ []) ≤ i = omega (arith, size, from, away) in
        let one = m.met i p' o' past at there in
        (one.0, get-set_other now k i q h.1 ∙ one.1, one.2, one.3)
  ];
}
  where
    k : ℕ
    k = length left

    size : length (left ++ o ∷ []) ≡ k + 1
    size = length-append left (o ∷ [])

    all : left ++ o ∷ m.rest ≡ others
    all = sym (append_assoc left (o ∷ []) m.rest) ∙ m.all

    here : (i : ℕ) (p' o' : Knowledge) → i ≡ k → slice_get before i ≡ Some p' → slice_get others i ≡ Some o'
        → (q' : Knowledge) × (slice_get (set now k q) i ≡ Some q') × IsSamePass p' q' × HasMet p' o' q'
    here i p' o' e at there =
        let at' : slice_get before k ≡ Some p' = subst (λ (j : ℕ). slice_get before j ≡ Some p') e at in
        let there' : slice_get others k ≡ Some o' = subst (λ (j : ℕ). slice_get others j ≡ Some o') e there in
        let was : slice_get now k ≡ slice_get before k = m.below k (omega (arith, size)) in
        let seam : slice_get others k ≡ Some o = ap (λ (xs : List Knowledge). slice_get xs k) (sym all) ∙ get-seam left m.rest o in
        let first : p ≡ p' = cc in
        let second : o ≡ o' = cc in
        let new : slice_get (set now k q) k ≡ Some q = get-set_same now k q (slice_get_within now k p is) in (
          q,
          subst (λ (j : ℕ). slice_get (set now k q) j ≡ Some q) (sym e) new,
          subst (λ (x : Knowledge). IsSamePass x q) first same,
          subst (λ (x : Knowledge). HasMet x o' q) first (subst (λ (x : Knowledge). HasMet p x q) second has),
        )

pub meeting_end : (desks : List DeskOrigin) (before others now left : List Knowledge) → length left ≡ 0 → Meeting desks before others now left → HaveMet before others now
meeting_end desks before others now left none m = record {
  count = m.count;
  each = λ i p o at there. m.met i p o (omega (arith, none)) at there;
}

-- the same, for the last of others that are left
pub meeting_last : (desks : List DeskOrigin) (before others now items left : List Knowledge) (k : ℕ) (p o q : Knowledge)
    → Meeting desks before others now items → items ≡ left ++ o ∷ [] → k ≡ length left → slice_get now k ≡ Some p → IsSamePass p q → HasMet p o q
    → Meeting desks before others (set now k q) left
meeting_last desks before others now items left k p o q m are place is same has =
    subst (λ (j : ℕ). Meeting desks before others (set now j q) left) (sym place)
    (meeting_more desks before others now left p o q (subst (Meeting desks before others now) are m) (subst (λ (j : ℕ). slice_get now j ≡ Some p) place is) same has)

-- the last of the others that are left is of the desk at its place, and so is the pass there
pub meeting_of : (desks : List DeskOrigin) (before others now items left : List Knowledge) (k : ℕ) (desk : DeskOrigin) (o : Knowledge)
    → ArePassesOf desks others → Meeting desks before others now items → items ≡ left ++ o ∷ [] → k ≡ length left → desk ≡ get_or desks k desk
    → (k < length now) × IsOf desk o × ((p : Knowledge) → slice_get now k ≡ Some p → IsOf desk p)
meeting_of desks before others now items left k desk o of m are place is =
    let size : length (left ++ o ∷ []) ≡ length left + 1 = length-append left (o ∷ []) in
    let whole : length ((left ++ o ∷ []) ++ m.rest) ≡ length (left ++ o ∷ []) + length m.rest = length-append (left ++ o ∷ []) m.rest in
    let all : (left ++ o ∷ []) ++ m.rest ≡ others = ap (λ (xs : List Knowledge). xs ++ m.rest) (sym are) ∙ m.all in
    let total : length ((left ++ o ∷ []) ++ m.rest) ≡ length others = ap length all in
    let count = of.count in
    let counted = m.of.count in
    let there : slice_get desks k ≡ Some desk = slice_get_read desks (length desks) k desk refl (omega (arith, size, whole, total, count, place)) is in
    let seam : slice_get others k ≡ Some o = subst (λ (j : ℕ). slice_get others j ≡ Some o) (sym place)
    (ap (λ (xs : List Knowledge). slice_get xs (length left)) (sym (sym (append_assoc left (o ∷ []) m.rest) ∙ all)) ∙ get-seam left m.rest o) in
    (omega (arith, size, whole, total, count, counted, place), of.each k desk o there seam, λ p at. m.of.each k desk p there at)
