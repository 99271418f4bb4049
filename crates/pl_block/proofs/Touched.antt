-- The partitions that records touch: they rise, and are those of the records.
use Rattle.std.proofs.Common.{◌≡◌, ℕ, zero, suc, ◌+◌, ◌<◌, ◌≤◌, ◌⊎◌, ◌↔◌, List, [], ◌∷◌, length, eqb, ltb, get_or, true, false, refl, sym, ◌∙◌, inl, inr, arith, Contains, map, Result, Ok, Err, is_ok, MatchResult, Decides}
use Rattle.std.specs.List.{fold, AllByRecursion}
use Rattle.std.specs.List.Sorted.{IsStrictlySortedBy, IsStrictlyIncreasing, IsBinarySearchResult}
use Rattle.std.specs.Ordering.{nat_cmp}
use Rattle.std.specs.declared.cmp.Ordering.TheVariants.{Less}
use Rattle.std.proofs.lemmas.Bool.{cases_lt, cases_eq, lt-ltb, le-ltb, eq-eqb}
use Rattle.std.proofs.lemmas.Bool.Decides.{nat_tests}
use Rattle.std.proofs.lemmas.Map.Keys.{sorted_from_strictly_increasing, IsStrictlyIncreasing-from_sorted, non_decreasing_from_sorted}
use Rattle.std.proofs.lemmas.List.{get_or_default}
use Rattle.std.proofs.lemmas.List.Sorted.{searched}
use Rattle.pl_block.specs.declared.record.Record.{Record}
use Rattle.pl_block.specs.Block.{partition_of, with_partition, touched}

-- each is above the one before it, and the first is at least low
abbrev pub RisesFrom : ℕ → List ℕ → Type 0
RisesFrom low [] = Unit {0}
RisesFrom low (p ∷ ps) = (low ≤ p) × RisesFrom (p + 1) ps

-- x is one of the list
abbrev pub In : ℕ → List ℕ → Type 0
In x [] = ⊥
In x (y ∷ ys) = (y ≡ x) ⊎ In x ys

-- how two partitions compare
data Place (p q : ℕ) : Type 0 where
  above : q < p → Place p q
  here : q ≡ p → Place p q
  below : p < q → Place p q

place : (p q : ℕ) → Place p q
place p q =
    elim (cases_lt q p) [
      | inl lt ↦ above lt
      | inr le ↦ elim (cases_eq q p) [ inl e ↦ here e | inr ne ↦ below (let differ : q ≡ p → ⊥ = ne in omega arith) ]
    ]

with_above : (p q : ℕ) (qs : List ℕ) → q < p → with_partition p (q ∷ qs) ≡ q ∷ with_partition p qs
with_above p q qs lt = let e : ltb q p ≡ true = lt-ltb q p lt in rw e refl

with_here : (p q : ℕ) (qs : List ℕ) → q ≡ p → with_partition p (q ∷ qs) ≡ q ∷ qs
with_here p q qs same =
    let e : ltb q p ≡ false = le-ltb q p (omega arith) in
    let f : eqb q p ≡ true = eq-eqb q p same in
    rw (e, f) refl

with_below : (p q : ℕ) (qs : List ℕ) → p < q → with_partition p (q ∷ qs) ≡ p ∷ q ∷ qs
with_below p q qs lt =
    let e : ltb q p ≡ false = le-ltb q p (omega arith) in
    let f : eqb q p ≡ false = grind (arith, nat_tests) in
    rw (e, f) refl

pub RisesFrom-lower : (low high : ℕ) (ps : List ℕ) → low ≤ high → RisesFrom high ps → RisesFrom low ps
RisesFrom-lower low high [] le h = tt
RisesFrom-lower low high (p ∷ ps) le h = (omega (arith, h.0), h.1)

pub RisesFrom-with_partition : (low p : ℕ) (ps : List ℕ) → low ≤ p → RisesFrom low ps → RisesFrom low (with_partition p ps)
RisesFrom-with_partition low p [] le h = (le, tt)
RisesFrom-with_partition low p (q ∷ qs) le h =
    elim (place p q) [
      | above lt ↦ rw (with_above p q qs lt) (h.0, RisesFrom-with_partition (q + 1) p qs (omega arith) h.1)
      | here e ↦ rw (with_here p q qs e) h
      | below lt ↦ rw (with_below p q qs lt) (le, (omega arith, h.1))
    ]

-- what is in the list with one partition more
In-from_with_partition : (x p : ℕ) (ps : List ℕ) → In x (with_partition p ps) → (p ≡ x) ⊎ In x ps
In-from_with_partition x p [] h = h
In-from_with_partition x p (q ∷ qs) h =
    elim (place p q) [
      | above lt ↦
          let split : (q ≡ x) ⊎ In x (with_partition p qs) = rw (with_above p q qs lt) at h in
          elim split [
            | inl e ↦ inr (inl e)
            | inr rest ↦ elim (In-from_with_partition x p qs rest) [ inl e ↦ inl e | inr i ↦ inr (inr i) ]
          ]
      | here e ↦ inr (rw (with_here p q qs e) at h)
      | below lt ↦ rw (with_below p q qs lt) at h
    ]

In-with_partition : (x p : ℕ) (ps : List ℕ) → (p ≡ x) ⊎ In x ps → In x (with_partition p ps)
In-with_partition x p [] h = h
In-with_partition x p (q ∷ qs) h =
    elim (place p q) [
      | above lt ↦ rw (with_above p q qs lt) (elim h [
        | inl e ↦ inr (In-with_partition x p qs (inl e))
        | inr i ↦ elim i [ inl e ↦ inl e | inr rest ↦ inr (In-with_partition x p qs (inr rest)) ]
      ])
      | here e ↦ rw (with_here p q qs e) (elim h [ inl f ↦ inl (e ∙ f) | inr i ↦ i ])
      | below lt ↦ rw (with_below p q qs lt) h
    ]

-- ---- lists by index and by recursion

In-from_get_or : (x : ℕ) (ys : List ℕ) (k : ℕ) → k < length ys → get_or ys k x ≡ x → In x ys
In-from_get_or x [] k lt e = absurd (omega arith)
In-from_get_or x (y ∷ ys) zero lt e = inl e
In-from_get_or x (y ∷ ys) (suc k) lt e = inr (In-from_get_or x ys k (omega arith) e)

pub In-from_Contains : (x : ℕ) (ys : List ℕ) → Contains ys x → In x ys
In-from_Contains x ys h = In-from_get_or x ys h.0 h.1 h.2

pub Contains-from_In : (x : ℕ) (ys : List ℕ) → In x ys → Contains ys x
Contains-from_In x [] h = absurd h
Contains-from_In x (y ∷ ys) (inl e) = (0, omega arith, e)
Contains-from_In x (y ∷ ys) (inr h) = let rest = Contains-from_In x ys h in (suc rest.0, omega (arith, rest.1), rest.2)

Less-from_rises : (x low : ℕ) (ps : List ℕ) → x < low → RisesFrom low ps → AllByRecursion (λ y. nat_cmp x y ≡ Less) ps
Less-from_rises x low [] lt h = tt
Less-from_rises x low (p ∷ ps) lt h = (grind (arith, nat_tests), Less-from_rises x (p + 1) ps (omega (arith, h.0)) h.1)

sorted_from_rises : (low : ℕ) (ps : List ℕ) → RisesFrom low ps → IsStrictlySortedBy nat_cmp ps
unfolding IsStrictlySortedBy
sorted_from_rises low [] h = tt
sorted_from_rises low (p ∷ ps) h = (Less-from_rises p (p + 1) ps (omega arith) h.1, sorted_from_rises (p + 1) ps h.1)

pub IsStrictlyIncreasing-from_rises : (low : ℕ) (ps : List ℕ) → RisesFrom low ps → IsStrictlyIncreasing ps
IsStrictlyIncreasing-from_rises low ps h = IsStrictlyIncreasing-from_sorted ps (sorted_from_rises low ps h)

RisesFrom-raised : (x low : ℕ) (ps : List ℕ) → AllByRecursion (λ y. nat_cmp x y ≡ Less) ps → RisesFrom low ps → RisesFrom (x + 1) ps
RisesFrom-raised x low [] all_above h = tt
RisesFrom-raised x low (p ∷ ps) all_above h = (grind (arith, nat_tests, all_above.0), h.1)

rises_from_sorted : (ps : List ℕ) → IsStrictlySortedBy nat_cmp ps → RisesFrom 0 ps
unfolding IsStrictlySortedBy
rises_from_sorted [] h = tt
rises_from_sorted (p ∷ ps) h = (omega arith, RisesFrom-raised p 0 ps h.0 (rises_from_sorted ps h.1))

pub RisesFrom-from_increasing : (ps : List ℕ) → IsStrictlyIncreasing ps → RisesFrom 0 ps
RisesFrom-from_increasing ps h = rises_from_sorted ps (sorted_from_strictly_increasing ps h)

-- ---- a rising list is known by its members

at_least : (x low : ℕ) (ps : List ℕ) → RisesFrom low ps → In x ps → low ≤ x
at_least x low [] h i = absurd i
at_least x low (p ∷ ps) h (inl e) = omega (arith, h.0)
at_least x low (p ∷ ps) h (inr i) = omega (arith, h.0, at_least x (p + 1) ps h.1 i)

-- each member of the first is one of the second
abbrev pub AreIn : List ℕ → List ℕ → Type 0
AreIn xs ys = (x : ℕ) → In x xs → In x ys

heads_agree : (low x y : ℕ) (xs ys : List ℕ) → RisesFrom low (x ∷ xs) → RisesFrom low (y ∷ ys) → AreIn (x ∷ xs) (y ∷ ys) → AreIn (y ∷ ys) (x ∷ xs) → x ≡ y
heads_agree low x y xs ys hx hy there back =
    elim (there x (inl refl)) [
      | inl e ↦ sym e
      | inr i ↦ elim (back y (inl refl)) [
        | inl e ↦ e
        | inr j ↦ absurd (omega (arith, at_least x (y + 1) ys hy.1 i, at_least y (x + 1) xs hx.1 j))
      ]
    ]

tails_agree : (low x y : ℕ) (xs ys : List ℕ) → x ≡ y → RisesFrom low (x ∷ xs) → AreIn (x ∷ xs) (y ∷ ys) → AreIn xs ys
tails_agree low x y xs ys same h there z i =
    elim (there z (inr i)) [
      | inl e ↦ absurd (omega (arith, at_least z (x + 1) xs h.1 i))
      | inr j ↦ j
    ]

pub same_from_members : (low : ℕ) (xs ys : List ℕ) → RisesFrom low xs → RisesFrom low ys → AreIn xs ys → AreIn ys xs → xs ≡ ys
same_from_members low [] [] hx hy there back = refl
same_from_members low [] (y ∷ ys) hx hy there back = absurd (back y (inl refl))
same_from_members low (x ∷ xs) [] hx hy there back = absurd (there x (inl refl))
same_from_members low (x ∷ xs) (y ∷ ys) hx hy there back =
    let e = heads_agree low x y xs ys hx hy there back in
    let rest = same_from_members (x + 1) xs ys hx.1 (rw e hy.1) (tails_agree low x y xs ys e hx there) (tails_agree low y x ys xs (sym e) hy back) in
    cc

-- ---- what records touch

RisesFrom-fold : (records : List Record) (ps : List ℕ) → RisesFrom 0 ps → RisesFrom 0 (fold (λ ps r. with_partition (partition_of r) ps) ps records)
RisesFrom-fold [] ps h = h
RisesFrom-fold (r ∷ rs) ps h = RisesFrom-fold rs (with_partition (partition_of r) ps) (RisesFrom-with_partition 0 (partition_of r) ps (omega arith) h)

pub RisesFrom-touched : (records : List Record) → RisesFrom 0 (touched records)
RisesFrom-touched records = RisesFrom-fold records [] tt

In-from_fold : (x : ℕ) (records : List Record) (ps : List ℕ) → In x (fold (λ ps r. with_partition (partition_of r) ps) ps records) → In x ps ⊎ In x (map partition_of records)
In-from_fold x [] ps h = inl h
In-from_fold x (r ∷ rs) ps h =
    elim (In-from_fold x rs (with_partition (partition_of r) ps) h) [
      | inl i ↦ elim (In-from_with_partition x (partition_of r) ps i) [ inl e ↦ inr (inl e) | inr j ↦ inl j ]
      | inr i ↦ inr (inr i)
    ]

In-fold : (x : ℕ) (records : List Record) (ps : List ℕ) → In x ps ⊎ In x (map partition_of records) → In x (fold (λ ps r. with_partition (partition_of r) ps) ps records)
In-fold x [] ps h = elim h [ inl i ↦ i | inr i ↦ absurd i ]
In-fold x (r ∷ rs) ps h =
    In-fold x rs (with_partition (partition_of r) ps) (elim h [
      | inl i ↦ inl (In-with_partition x (partition_of r) ps (inr i))
      | inr i ↦ elim i [
        | inl e ↦ inl (In-with_partition x (partition_of r) ps (inl e))
        | inr j ↦ inr j
      ]
    ])

pub touched_members : (x : ℕ) (records : List Record) → Contains (touched records) x ↔ Contains (map partition_of records) x
touched_members x records = (
  λ h. elim (In-from_fold x records [] (In-from_Contains x (touched records) h)) [
    | inl i ↦ absurd i
    | inr i ↦ Contains-from_In x (map partition_of records) i
  ],
  λ h. Contains-from_In x (touched records) (In-fold x records [] (inr (In-from_Contains x (map partition_of records) h))),
)

-- a rising list of the records' partitions is what they touch
pub touched_from_members : (records : List Record) (ps : List ℕ) → IsStrictlyIncreasing ps → ((x : ℕ) → Contains ps x ↔ Contains (map partition_of records) x) → ps ≡ touched records
touched_from_members records ps rises members =
    same_from_members 0 ps (touched records) (RisesFrom-from_increasing ps rises) (RisesFrom-touched records)
    (λ x i. In-from_Contains x (touched records) ((touched_members x records).1 ((members x).0 (Contains-from_In x ps i))))
    (λ x i. In-from_Contains x ps ((members x).1 ((touched_members x records).0 (Contains-from_In x (touched records) i))))

-- a search in a rising list finds a number exactly if the list has it
Contains-from_search : (xs : List ℕ) (x : ℕ) (r : Result ℕ ℕ) → MatchResult r (λ i. (i < length xs) × (get_or xs i 0 ≡ x)) (λ i. (i ≤ length xs) × ((k : ℕ) → k < i → get_or xs k 0 < x) × ((k : ℕ) → i ≤ k → k < length xs → x < get_or xs k 0)) → Decides (is_ok r) (Contains xs x)
Contains-from_search xs x (Ok i) h = (λ _. (i, h.0, get_or_default xs i x 0 h.0 ∙ h.1), λ _. refl)
Contains-from_search xs x (Err i) h = (
  λ e. absurd cc,
  λ w. absurd (elim (cases_lt w.0 i) [
    | inl lt ↦ omega (arith, h.1 w.0 lt, get_or_default xs w.0 x 0 w.1, w.2)
    | inr le ↦ omega (arith, h.2 w.0 le w.1, get_or_default xs w.0 x 0 w.1, w.2)
  ]),
)

pub touched-search : (records : List Record) (x : ℕ) (r : Result ℕ ℕ) → IsBinarySearchResult (λ y. nat_cmp y x) (touched records) r → Decides (is_ok r) (Contains (map partition_of records) x)
touched-search records x r h =
    let rises = sorted_from_strictly_increasing (touched records) (IsStrictlyIncreasing-from_rises 0 (touched records) (RisesFrom-touched records)) in
    let tells = Contains-from_search (touched records) x r (searched (touched records) x r h (λ i j le lt. non_decreasing_from_sorted (touched records) rises i j 0 le lt)) in
    let members = touched_members x records in
    (λ e. members.0 (tells.0 e), λ w. tells.1 (members.1 w))
