-- Passes that meet all others, one after the other.
use Rattle.std.proofs.Common.{◌≡◌, ℕ, ◌<◌, List, [], ◌∷◌, ◌++◌, length, get_or, Some, All, append_assoc, append-nil, refl, sym, ap, subst, ◌∙◌, arith}
use Rattle.std.proofs.lemmas.List.{nil_from_length}
use Rattle.std.proofs.lemmas.List.Elements.{All-nil, All-cons, All-pop, All-weaker}
use Rattle.std.proofs.lemmas.Option.{slice_get_within, slice_get-get_or}
use Rattle.std.specs.Prelude.{slice_get}
use Rattle.pl_desk.specs.Growth.{GoesOn}
use Rattle.pl_desk.specs.Passes.{Knowledge, DeskOrigin}
use Rattle.pl_desk.proofs.Histories.{goes_on-refl, goes_on-trans}
use Rattle.pl_conn.specs.Desks.{ArePassesOf, HaveMet, HaveSeen}

-- a pass has seen what it has seen
have_seen_itself : (passes : List Knowledge) → HaveSeen passes passes
have_seen_itself passes i p at = (p, at, goes_on-refl p.terms.seats p.seen)

-- what a pass had seen before it met another one it has seen after that
seen_before : (desks : List DeskOrigin) (before other after x : List Knowledge) → ArePassesOf desks before → ArePassesOf desks other
    → HaveMet before other after → HaveSeen before x → HaveSeen after x
seen_before desks before other after x of of_other met seen i p at =
    let one = seen i p at in
    let mine = one.0 in
    let within : i < length before = slice_get_within before i mine one.1 in
    let count = of.count in
    let count_other = of_other.count in
    let theirs : slice_get other i ≡ Some (get_or other i mine) = slice_get-get_or other i mine (omega (arith, within, count, count_other)) in
    let two = met.each i mine (get_or other i mine) one.1 theirs in
    let terms = two.2.terms in
    (two.0, two.1, subst (λ (t : _). GoesOn t.seats p.seen two.0.seen) (sym terms) (goes_on-trans mine.terms.seats p.seen mine.seen two.0.seen one.2 two.3.left))

-- and so is what the other one had seen
seen_other : (desks : List DeskOrigin) (before other after : List Knowledge) → ArePassesOf desks before → ArePassesOf desks other
    → HaveMet before other after → HaveSeen after other
seen_other desks before other after of of_other met i o at =
    let within : i < length other = slice_get_within other i o at in
    let count = of.count in
    let count_other = of_other.count in
    let mine : slice_get before i ≡ Some (get_or before i o) = slice_get-get_or before i o (omega (arith, within, count, count_other)) in
    let two = met.each i (get_or before i o) o mine at in
    let terms = two.2.terms in
    (two.0, two.1, subst (λ (t : _). GoesOn t.seats o.seen two.0.seen) (sym terms) two.3.right)

-- the passes after those that are left have met
pub record Assembles (desks : List DeskOrigin) (given : List (List Knowledge)) (first pass : List Knowledge) (left : List (List Knowledge)) : Type 0 where
  pub of : ArePassesOf desks pass
  pub own : HaveSeen pass first
  pub others : All (ArePassesOf desks) left
  pub rest : List (List Knowledge)
  pub all : left ++ rest ≡ given
  pub seen : All (HaveSeen pass) rest

pub assembles_start : (desks : List DeskOrigin) (given : List (List Knowledge)) (first : List Knowledge) → ArePassesOf desks first → All (ArePassesOf desks) given
    → Assembles desks given first first given
assembles_start desks given first of others = record {
  of = of;
  own = have_seen_itself first;
  others = others;
  rest = [];
  all = append-nil given;
  seen = All-nil (HaveSeen first);
}

-- the last of those that are left is of the desks
pub assembles_of : (desks : List DeskOrigin) (given : List (List Knowledge)) (first pass other : List Knowledge) (items left : List (List Knowledge))
    → Assembles desks given first pass items → items ≡ left ++ other ∷ [] → ArePassesOf desks other
assembles_of desks given first pass other items left a are = (All-pop (ArePassesOf desks) items left (Some other) are a.others).1

-- one more has met
pub assembles_more : (desks : List DeskOrigin) (given : List (List Knowledge)) (first pass other after : List Knowledge) (items left : List (List Knowledge))
    → Assembles desks given first pass items → items ≡ left ++ other ∷ [] → HaveMet pass other after → ArePassesOf desks after → Assembles desks given first after left
assembles_more desks given first pass other after items left a are met of =
    let two = All-pop (ArePassesOf desks) items left (Some other) are a.others in
    record {
      of = of;
      own = seen_before desks pass other after first a.of two.1 met a.own;
      others = two.0;
      rest = other ∷ a.rest;
      all = sym (append_assoc left (other ∷ []) a.rest) ∙ ap (λ (xs : List (List Knowledge)). xs ++ a.rest) (sym are) ∙ a.all;
      seen = All-cons (HaveSeen after) other a.rest (seen_other desks pass other after a.of two.1 met)
          (All-weaker (HaveSeen pass) (HaveSeen after) (λ x seen. seen_before desks pass other after x a.of two.1 met seen) a.rest a.seen);
    }

pub assembles_end : (desks : List DeskOrigin) (given : List (List Knowledge)) (first pass : List Knowledge) (left : List (List Knowledge))
    → length left ≡ 0 → Assembles desks given first pass left → All (HaveSeen pass) given
assembles_end desks given first pass left none a =
    subst (All (HaveSeen pass)) (ap (λ (xs : List (List Knowledge)). xs ++ a.rest) (sym (nil_from_length left none)) ∙ a.all) a.seen
