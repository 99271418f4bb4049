-- Lists of views: counts over their stages, and what is so of each view and of each two.
use Rattle.std.proofs.Common.{◌≡◌, ◌≢◌, ℕ, zero, suc, ◌+◌, ◌<◌, ◌≤◌, List, [], ◌∷◌, ◌++◌, length, set, ◌⊎◌, refl, sym, ap, subst, ◌∙◌, inl, inr, arith}
use mathlib.Core.Option.{some, some-injective, some-ne-none}
use lib.ListN.{get_elem?}
use Rattle.atomic_table.proofs.Lists.{at_set}
use Rattle.pl_desk.specs.declared.rule.Stage.{Stage}
use Rattle.pl_desk.specs.declared.rule.Stage.TheVariants.{Idle, Asking, Waiting, InTurn, Met, Gone}
use Rattle.pl_desk.specs.declared.rule.View.{View}
use Rattle.pl_desk.specs.Rule.{total, asks_at, AreApart}

-- ---- counts over stages

pub asks-few : (s : Stage) → asks_at s ≤ 1
asks-few Idle = omega arith
asks-few Asking = omega arith
asks-few (Waiting t) = omega arith
asks-few (InTurn t found) = omega arith
asks-few (Met first second other) = omega arith
asks-few Gone = omega arith

pub total-set : (f : Stage → ℕ) (vs : List View) (i : ℕ) (v w : View) → get_elem? vs i ≡ some v → total f (set vs i w) + f v.stage ≡ total f vs + f w.stage
total-set f [] i v w at = absurd (some-ne-none v (sym at))
total-set f (x ∷ xs) zero v w at = let same = ap (λ (u : View). f u.stage) (some-injective x v at) in omega (arith, same)
total-set f (x ∷ xs) (suc i) v w at = let rest = total-set f xs i v w at in omega (arith, rest)

pub total-end : (f : Stage → ℕ) (vs : List View) (w : View) → total f (vs ++ w ∷ []) ≡ total f vs + f w.stage
total-end f [] w = omega arith
total-end f (x ∷ xs) w = let rest = total-end f xs w in omega (arith, rest)

total-few : (f : Stage → ℕ) → ((s : Stage) → f s ≤ 1) → (vs : List View) → total f vs ≤ length vs
total-few f few [] = omega arith
total-few f few (x ∷ xs) = let one = few x.stage in let rest = total-few f few xs in omega (arith, one, rest)

-- if one view counts for nothing, the count is less than the number of views
pub total-spare : (f : Stage → ℕ) → ((s : Stage) → f s ≤ 1) → (vs : List View) (i : ℕ) (v : View) → get_elem? vs i ≡ some v → f v.stage ≡ 0 → total f vs < length vs
total-spare f few [] i v at none = absurd (some-ne-none v (sym at))
total-spare f few (x ∷ xs) zero v at none =
    let same = ap (λ (u : View). f u.stage) (some-injective x v at) in
    let rest = total-few f few xs in
    omega (arith, same, none, rest)
total-spare f few (x ∷ xs) (suc i) v at none =
    let one = few x.stage in
    let rest = total-spare f few xs i v at none in
    omega (arith, one, rest)

-- what a view counts is at most the whole count
pub total-part : (f : Stage → ℕ) (vs : List View) (i : ℕ) (v : View) → get_elem? vs i ≡ some v → f v.stage ≤ total f vs
total-part f [] i v at = absurd (some-ne-none v (sym at))
total-part f (x ∷ xs) zero v at = let same = ap (λ (u : View). f u.stage) (some-injective x v at) in omega (arith, same)
total-part f (x ∷ xs) (suc i) v at = let rest = total-part f xs i v at in omega (arith, rest)

-- ---- each view, and each two

-- it is so of each view that is not gone
abbrev pub Each : (View → Type 0) → List View → Type 0
Each P vs = (j : ℕ) (u : View) → get_elem? vs j ≡ some u → u.stage ≢ Gone → P u

-- it is so of each two views that are not gone
abbrev pub Pairs : (View → View → Type 0) → List View → Type 0
Pairs R vs = (i j : ℕ) (u w : View) → i ≢ j → get_elem? vs i ≡ some u → get_elem? vs j ≡ some w
    → u.stage ≢ Gone → w.stage ≢ Gone → R u w

pub each-set : (P : View → Type 0) (vs : List View) (id : ℕ) (w : View) → (w.stage ≢ Gone → P w)
    → ((j : ℕ) (u : View) → j ≢ id → get_elem? vs j ≡ some u → u.stage ≢ Gone → P u) → Each P (set vs id w)
each-set P vs id w mine others j u at live =
    elim (at_set vs id j w u at) [
      | inl here ↦ subst P here.1 (mine (subst (λ (x : View). x.stage ≢ Gone) (sym here.1) live))
      | inr there ↦ others j u there.0 there.1 live
    ]

-- the last of a list, or one before it
at_end : (vs : List View) (w : View) (j : ℕ) (u : View) → get_elem? (vs ++ w ∷ []) j ≡ some u → (get_elem? vs j ≡ some u) ⊎ ((j ≡ length vs) × (w ≡ u))
at_end [] w zero u at = inr (refl, some-injective w u at)
at_end [] w (suc j) u at = absurd (some-ne-none u (sym at))
at_end (x ∷ xs) w zero u at = inl at
at_end (x ∷ xs) w (suc j) u at =
    elim (at_end xs w j u at) [
      | inl before ↦ inl before
      | inr last ↦ inr (omega (arith, last.0), last.1)
    ]

pub each-end : (P : View → Type 0) (vs : List View) (w : View) → P w → Each P vs → Each P (vs ++ w ∷ [])
each-end P vs w mine others j u at live =
    elim (at_end vs w j u at) [
      | inl before ↦ others j u before live
      | inr last ↦ subst P last.1 mine
    ]

pub pairs-set : (R : View → View → Type 0) → ((a b : View) → R a b → R b a) → (vs : List View) (id : ℕ) (w : View)
    → (w.stage ≢ Gone → (j : ℕ) (u : View) → j ≢ id → get_elem? vs j ≡ some u → u.stage ≢ Gone → R w u) → Pairs R vs → Pairs R (set vs id w)
pairs-set R turn vs id w mine others i j u x apart at_i at_j live_u live_x =
    elim (at_set vs id i w u at_i) [
      | inl here ↦ elim (at_set vs id j w x at_j) [
        | inl both ↦ absurd (apart (here.0 ∙ sym both.0))
        | inr there ↦ subst (λ (y : View). R y x) here.1 (mine (subst (λ (y : View). y.stage ≢ Gone) (sym here.1) live_u) j x there.0 there.1 live_x)
      ]
      | inr there ↦ elim (at_set vs id j w x at_j) [
        | inl here ↦ turn x u (subst (λ (y : View). R y u) here.1 (mine (subst (λ (y : View). y.stage ≢ Gone) (sym here.1) live_x) i u there.0 there.1 live_u))
        | inr two ↦ others i j u x apart there.1 two.1 live_u live_x
      ]
    ]

pub pairs-end : (R : View → View → Type 0) → ((a b : View) → R a b → R b a) → (vs : List View) (w : View) → Each (R w) vs → Pairs R vs → Pairs R (vs ++ w ∷ [])
pairs-end R turn vs w mine others i j u x apart at_i at_j live_u live_x =
    elim (at_end vs w i u at_i) [
      | inl left ↦ elim (at_end vs w j x at_j) [
        | inl right ↦ others i j u x apart left right live_u live_x
        | inr last ↦ turn x u (subst (λ (y : View). R y u) last.1 (mine i u left live_u))
      ]
      | inr last ↦ elim (at_end vs w j x at_j) [
        | inl right ↦ subst (λ (y : View). R y x) last.1 (mine j x right live_x)
        | inr both ↦ absurd (apart (last.0 ∙ sym both.0))
      ]
    ]

pub apart-turned : (v w : View) → AreApart v w → AreApart w v
apart-turned v w apart = record { numbers = λ e. apart.numbers (sym e); tickets = λ t theirs mine. apart.tickets t mine theirs }
