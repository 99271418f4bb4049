-- The list of places whose turn is due, one more or one less.
use Rattle.std.proofs.Common.{◌≡◌, ◌≢◌, ◌==◌, ℕ, ◌+◌, Bool, false, true, List, [], ◌∷◌, ◌++◌, Option, None, Some, refl, ap, sym, ◌∙◌, arith, if◌then◌else◌, ◌⊎◌, inl, inr, subst, IsSome, IsTrue, not}
use Rattle.std.proofs.lemmas.Bool.{cases_eq, eq-eqb, ne_eqb, not-true}
use Rattle.slab.specs.Slab.{Slab, get, Updates, with_value}
use Rattle.slab.proofs.SlabLemmas.{Updates-with_value}
use Rattle.pl_conn.specs.Lines.{AreListed, Keeps, once_if_due, times}
use Rattle.pl_conn.specs.declared.lines.Line.{Line}

pub times-append : (place : ℕ) (xs ys : List ℕ) → times place (xs ++ ys) ≡ times place xs + times place ys
times-append place [] ys = omega arith
times-append place (x ∷ xs) ys = omega (arith, times-append place xs ys)

-- the same place, and another one
times_same : (place first : ℕ) (rest : List ℕ) → place ≡ first → times place (first ∷ rest) ≡ 1 + times place rest
times_same place first rest same = rw (eq-eqb place first same) refl

times_other : (place first : ℕ) (rest : List ℕ) → place ≢ first → times place (first ∷ rest) ≡ times place rest
times_other place first rest differs = rw (ne_eqb place first differs) (omega arith)

once_due : (slot : Option Line) (line : Line) → slot ≡ Some line → line.is_due ≡ true → once_if_due slot ≡ 1
once_due slot line is due = rw (is, due) refl

bool_cases : (b : Bool) → (b ≡ true) ⊎ (b ≡ false)
bool_cases true = inl refl
bool_cases false = inr refl

once_idle : (slot : Option Line) (line : Line) → slot ≡ Some line → line.is_due ≡ false → once_if_due slot ≡ 0
once_idle slot line is idle = rw (is, idle) refl

-- a connection more is listed
pub listed_more : (old new : Slab Line) (due : List ℕ) (place : ℕ) (line : Line) → AreListed old due → get old place ≡ Some line → line.is_due ≡ false
    → Updates old new place (Some (record line { is_due = true })) → AreListed new (due ++ place ∷ [])
listed_more old new due place line listed is idle u p =
    elim (cases_eq p place) [
      | inl same ↦
          omega (
            arith,
            times-append p due (place ∷ []),
            times_same p place [] same,
            listed p,
            once_idle (get old p) line (ap (get old) same ∙ is) idle,
            once_due (get new p) (record line { is_due = true }) (ap (get new) same ∙ u.changed) refl,
          )
      | inr differs ↦
          omega (arith, times-append p due (place ∷ []), times_other p place [] differs, listed p, ap once_if_due (u.others p differs))
    ]

-- it is due, so it is open
once_open : (slot : Option Line) (n : ℕ) → 1 + n ≡ once_if_due slot → (line : Line) × (slot ≡ Some line) × (line.is_due ≡ true)
once_open None n once = absurd (omega (arith, once))
once_open (Some line) n once = elim (bool_cases line.is_due) [
  | inl due ↦ (line, refl, due)
  | inr idle ↦ absurd (omega (arith, once, once_idle (Some line) line refl idle))
]

-- the first of the list is open
pub first_open : (old : Slab Line) (due : List ℕ) (place : ℕ) → AreListed old (place ∷ due) → (line : Line) × (get old place ≡ Some line) × (line.is_due ≡ true)
first_open old due place listed = once_open (get old place) (times place due) (sym (times_same place place due refl) ∙ listed place)

-- the first of the list is listed no more
pub listed_less : (old new : Slab Line) (due : List ℕ) (place : ℕ) (line : Line) → AreListed old (place ∷ due) → get old place ≡ Some line → line.is_due ≡ true
    → Updates old new place (Some (record line { is_due = false })) → AreListed new due
listed_less old new due place line listed is was u p =
    elim (cases_eq p place) [
      | inl same ↦
          omega (
            arith,
            times_same p place due same,
            listed p,
            once_due (get old p) line (ap (get old) same ∙ is) was,
            once_idle (get new p) (record line { is_due = false }) (ap (get new) same ∙ u.changed) refl,
          )
      | inr differs ↦
          omega (arith, times_other p place due differs, listed p, ap once_if_due (u.others p differs))
    ]

-- the first of the list is open, and once it is marked so, idle
pub idle_first : (old new : Slab Line) (all due : List ℕ) (place : ℕ) → AreListed old all → all ≡ place ∷ due
    → ((line : Line) → get old place ≡ Some line → Updates old new place (Some (record line { is_due = false })))
    → (line : Line) × (get new place ≡ Some line) × (line.is_due ≡ false)
idle_first old new all due place listed is marks =
    let found = first_open old due place (subst (λ l. AreListed old l) is listed) in
    (record found.0 { is_due = false }, (marks found.0 found.1).changed, refl)

pub listed_rest : (old new : Slab Line) (all due : List ℕ) (place : ℕ) → AreListed old all → all ≡ place ∷ due
    → ((line : Line) → get old place ≡ Some line → Updates old new place (Some (record line { is_due = false })))
    → AreListed new due
listed_rest old new all due place listed is marks =
    let those = subst (λ l. AreListed old l) is listed in
    let found = first_open old due place those in
    listed_less old new due place found.0 those found.1 found.2 (marks found.0 found.1)

pub listed_end : (old new : Slab Line) (due all : List ℕ) (place : ℕ) → AreListed old due → (line : Line) × (get old place ≡ Some line) × (line.is_due ≡ false)
    → all ≡ due ++ place ∷ []
    → ((line : Line) → get old place ≡ Some line → Updates old new place (Some (record line { is_due = true })))
    → AreListed new all
listed_end old new due all place listed idle is marks = subst (λ l. AreListed new l) (sym is)
    (listed_more old new due place idle.0 listed idle.1 idle.2 (marks idle.0 idle.1))

once_same : (slot : Option Line) (line now : Line) → slot ≡ Some line → now.is_due ≡ line.is_due → once_if_due (Some now) ≡ once_if_due slot
once_same slot line now is same = rw (is, same) refl

-- whether its turn is due stays as it was
pub listed_same : (old new : Slab Line) (due : List ℕ) (place : ℕ) (line now : Line) → AreListed old due → get old place ≡ Some line → now.is_due ≡ line.is_due
    → Updates old new place (Some now) → AreListed new due
listed_same old new due place line now listed is same u p =
    elim (cases_eq p place) [
      | inl at ↦ listed p ∙ sym (ap (λ q. once_if_due (get new q)) at ∙ ap once_if_due u.changed ∙ once_same (get old p) line now (ap (get old) at ∙ is) same)
      | inr differs ↦ listed p ∙ ap once_if_due (sym (u.others p differs))
    ]

-- what is noted of one connection changes
pub kept_by : (old : Slab Line) (place : ℕ) (line now : Line) (P : Line → Line → Type 0) → get old place ≡ Some line → now.is_due ≡ line.is_due → P line now
    → Keeps old place (with_value old place now) P
kept_by old place line now P is same holds other found =
    let one : line ≡ other = cc in
    let present : IsSome (get old place) = rw is refl in
    (now, same ∙ ap (λ (l : Line). l.is_due) one, Updates-with_value old place now present, subst (λ l. P l now) one holds)

not_due : (b : Bool) → IsTrue (not b) → b ≡ false
not_due b told = not-true b told

-- a connection whose turn is not due is idle
pub idle_by : (old : Slab Line) (place : ℕ) (line now : Line) → get old place ≡ Some line → IsTrue (not now.is_due)
    → (l : Line) × (get (with_value old place now) place ≡ Some l) × (l.is_due ≡ false)
idle_by old place line now is told =
    let present : IsSome (get old place) = rw is refl in
    (now, (Updates-with_value old place now present).changed, not_due now.is_due told)
