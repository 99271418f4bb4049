-- Rows that are listed, and rows that can match.
use Rattle.std.proofs.Common.{◌≡◌, ℕ, zero, suc, ◌+◌, ◌<◌, ◌≤◌, Bool, true, false, ◌&&◌, cond, eqb, List, [], ◌∷◌, ◌++◌, length, map, filter, drop, Option, Some, None, All, IfSome, Contains, refl, sym, ap, ◌∙◌, inl, inr, arith, slice_get, option_map, get_or, Result, MatchResult, if◌then◌else◌}
use Rattle.std.specs.Cmp.{nat_eq_equiv}
use Rattle.std.specs.Ordering.{nat_cmp}
use Rattle.std.specs.List.Sorted.{IsStrictlyIncreasing, IsBinarySearchResult, IsPermutation}
use Rattle.std.proofs.lemmas.List.Sorted.{searched}
use Rattle.std.proofs.lemmas.Map.Keys.{sorted_from_strictly_increasing, non_decreasing_from_sorted}
use Rattle.std.specs.List.{list_any, filter_map, cons_option, dedup, AllByRecursion}
use Rattle.std.proofs.lemmas.Bool.{cases_Bool, cases_eq, cases_lt, eq-eqb, ne_eqb}
use Rattle.std.proofs.lemmas.Option.{slice_get_within, slice_get-map, slice_get-get_or, get_or_from_slice_get}
use Rattle.std.proofs.lemmas.List.{at_drop_more, drop_more, length-map, map-append, append_assoc, get_or_default}
use Rattle.std.proofs.Math.ListN.{get_or-map}
use Rattle.std.proofs.lemmas.List.Elements.{All-from_recursion, recursion_from_All}
use Rattle.std.proofs.lemmas.List.Kept.{Contains-dedup_nat}
use Rattle.std.proofs.lemmas.List.Sorted.{Contains-permutation}
use Rattle.std.proofs.lemmas.Map.Views.{list_any-from_Contains}
use Rattle.pl_table.specs.declared.tables.index.OpLists.{OpLists}
use Rattle.pl_table.specs.declared.requests.op.Op.{Op}
use Rattle.pl_table.specs.declared.tables.row.Row.{Row}
use Rattle.pl_table.specs.Requests.Ops.{same_role}
use Rattle.pl_table.specs.Tables.Absent.{part_matches}
use Rattle.pl_table.specs.Requests.Asking.{Asked}
use Rattle.pl_table.specs.Tables.Row.{range_matches, is_about, row_matches}
use Rattle.pl_table.specs.Tables.FirstMatch.{first_match_from}
use Rattle.pl_table.specs.Tables.Index.{askers, asker_of, is_asker, can_be, can_be_for, can_match, places_from, places_by_op, lists_of}

-- ---- a list is made

-- the lists of one asker more
pub lists-more : (names : List ℕ) (rows : List Row) (lists : List OpLists) (mine : OpLists) (i : ℕ) → i < length names → lists_of mine ≡ places_by_op rows (Some (get_or names i 0)) → map lists_of (lists ++ mine ∷ []) ++ map (places_by_op rows) (askers (drop (i + 1) names)) ≡ map lists_of lists ++ map (places_by_op rows) (askers (drop i names))
lists-more names rows lists mine i lt is =
    let here : map lists_of (mine ∷ []) ≡ places_by_op rows (Some (get_or names i 0)) ∷ [] = ap (λ l. l ∷ []) is in
    rw (drop_more names i 0 lt, map-append lists_of lists (mine ∷ []), here) (append_assoc (map lists_of lists) (places_by_op rows (Some (get_or names i 0)) ∷ []) (map (places_by_op rows) (askers (drop (i + 1) names))))

-- ---- a list is read

-- from the place k on, the list has all rows that can match, and the first match is still to come
abbrev pub IsLeft : List Row → Asked → List ℕ → Type 0
IsLeft rows q list = (k : ℕ) × (list ≡ places_from k (can_match q) (drop k rows)) × (first_match_from (k + 1) (drop k rows) q ≡ first_match_from 1 rows q)

and_unlisted : (a b c d : Bool) → (a && c) ≡ false → (a && (b && (c && d))) ≡ false
and_unlisted false b c d h = refl
and_unlisted true false c d h = refl
and_unlisted true true false d h = refl
and_unlisted true true true d h = absurd cc

-- a row that cannot match is not about the request
pub not_about : (row : Row) (q : Asked) → can_match q row ≡ false → is_about row q ≡ false
not_about row q fails =
    and_unlisted (part_matches (λ who. eqb who q.principal) row.who) (part_matches (same_role q.role) row.role) (can_be_for q.op row) (part_matches (range_matches row.allows q.partitions) row.range) fails

and_left : (a b : Bool) → a ≡ false → (a && b) ≡ false
and_left false b h = refl
and_left true b h = absurd cc

-- a row that cannot match does not
unlisted : (row : Row) (q : Asked) → can_match q row ≡ false → row_matches row q ≡ false
unlisted row q fails =
    and_left _ _ (not_about row q fails)

dropped : {A : Type 0} (xs rest : List A) (k : ℕ) (x : A) → drop k xs ≡ x ∷ rest → (slice_get xs k ≡ Some x) × (drop (k + 1) xs ≡ rest)
dropped [] rest zero x e = absurd cc
dropped [] rest (suc k) x e = absurd cc
dropped (y ∷ xs) rest zero x e = (ap (λ l. slice_get l 0) e, ap (λ l. drop 1 l) e)
dropped (y ∷ xs) rest (suc k) x e =
    let here = dropped xs rest k x e in
    let more : suc k + 1 ≡ suc (k + 1) = omega arith in
    (here.0, rw more here.1)

-- the next place of a list: the row there can match, and either does or leaves the others
pub record IsNext (all : List Row) (q : Asked) (p : ℕ) (ps : List ℕ) : Type 0 where
  pub row : Row
  pub here : slice_get all p ≡ Some row
  pub listed : can_match q row ≡ true
  pub after : ps ≡ places_from (p + 1) (can_match q) (drop (p + 1) all)
  pub first : (if row_matches row q then Some (p + 1, row.allows) else first_match_from (p + 1 + 1) (drop (p + 1) all) q) ≡ first_match_from 1 all q

next : (all : List Row) (q : Asked) (k : ℕ) (rest : List Row) (p : ℕ) (ps : List ℕ) → drop k all ≡ rest → p ∷ ps ≡ places_from k (can_match q) rest → first_match_from (k + 1) rest q ≡ first_match_from 1 all q → IsNext all q p ps
next all q k [] p ps here are first = absurd cc
next all q k (row ∷ rest) p ps here are first =
    let at = dropped all rest k row here in
    elim (cases_Bool (can_match q row)) [
      | inl holds ↦
          let both : p ∷ ps ≡ k ∷ places_from (k + 1) (can_match q) rest = rw holds at are in
          let place : p ≡ k = ap (λ l. get_or l 0 0) both in
          rw place (record {
            row = row;
            here = at.0;
            listed = holds;
            after = ap (λ l. drop 1 l) both ∙ ap (places_from (k + 1) (can_match q)) (sym at.1);
            first = rw at.1 first;
          })
      | inr fails ↦ next all q (k + 1) rest p ps at.1 (rw fails at are) (rw (unlisted row q fails) at first)
    ]

pub IsLeft-next : (all : List Row) (q : Asked) (list : List ℕ) (p : ℕ) (ps : List ℕ) → list ≡ p ∷ ps → IsLeft all q list → IsNext all q p ps
IsLeft-next all q list p ps is left = next all q left.0 (drop left.0 all) p ps refl (sym is ∙ left.1) left.2

-- what is read at the next place
row_next : (all : List Row) (q : Asked) (p : ℕ) (ps : List ℕ) (row : Row) (next : IsNext all q p ps) → row ≡ get_or all p row → row ≡ next.row
row_next all q p ps row next is = is ∙ get_or_from_slice_get all p next.row row next.here

pub listed-next : (all : List Row) (q : Asked) (p : ℕ) (ps : List ℕ) (row : Row) → IsNext all q p ps → row ≡ get_or all p row → can_match q row ≡ true
listed-next all q p ps row next is = ap (can_match q) (row_next all q p ps row next is) ∙ next.listed

pub found-next : (all : List Row) (q : Asked) (p : ℕ) (ps : List ℕ) (row : Row) → IsNext all q p ps → row ≡ get_or all p row → row_matches row q ≡ true → Some (p + 1, row.allows) ≡ first_match_from 1 all q
found-next all q p ps row next is matches =
    let same = row_next all q p ps row next is in
    let holds : row_matches next.row q ≡ true = ap (λ (r : Row). row_matches r q) (sym same) ∙ matches in
    ap (λ (r : Row). Some (p + 1, r.allows)) same ∙ (rw holds at next.first)

pub missed-next : (all : List Row) (q : Asked) (p : ℕ) (ps : List ℕ) (row : Row) → IsNext all q p ps → row ≡ get_or all p row → row_matches row q ≡ false → IsLeft all q ps
missed-next all q p ps row next is misses =
    let same = row_next all q p ps row next is in
    let fails : row_matches next.row q ≡ false = ap (λ (r : Row). row_matches r q) (sym same) ∙ misses in
    (p + 1, next.after, rw fails at next.first)

nothing : (k : ℕ) (rest : List Row) (q : Asked) → [] ≡ places_from k (can_match q) rest → first_match_from (k + 1) rest q ≡ None
nothing k [] q are = refl
nothing k (row ∷ rest) q are =
    elim (cases_Bool (can_match q row)) [
      | inl holds ↦ absurd (let clash : [] ≡ k ∷ places_from (k + 1) (can_match q) rest = rw holds at are in cc)
      | inr fails ↦ rw (unlisted row q fails) (nothing (k + 1) rest q (rw fails at are))
    ]

-- if no place is left no row matches
pub IsLeft-none : (all : List Row) (q : Asked) (list : List ℕ) → length list ≡ 0 → IsLeft all q list → first_match_from 1 all q ≡ None
IsLeft-none all q [] none left = sym left.2 ∙ nothing left.0 (drop left.0 all) q left.1
IsLeft-none all q (p ∷ ps) none left = absurd cc

-- ---- the list of an asker and of an operation

asker_is : (id : ℕ) (names : List ℕ) → asker_of id names ≡ cond (list_any (eqb id) names) (Some id) None
asker_is id [] = refl
asker_is id (name ∷ names) =
    elim (cases_eq id name) [
      | inl same ↦ rw (eq-eqb id name same) (ap (λ (n : ℕ). Some n) (sym same))
      | inr other ↦ rw (ne_eqb id name other) (asker_is id names)
    ]

name_found : (id : ℕ) (names : List ℕ) → Contains names id → asker_of id names ≡ Some id
name_found id names there = asker_is id names ∙ ap (λ (b : Bool). cond b (Some id) None) (list_any-from_Contains nat_eq_equiv id names there)

-- a row that names a principal is of this asker exactly if it names this principal
same_who : (names : List ℕ) (who : Option ℕ) (id : ℕ) → IfSome who (Contains names) → part_matches (is_asker (asker_of id names)) who ≡ part_matches (λ w. eqb w id) who
same_who names None id listed = refl
same_who names (Some w) id listed =
    elim (cases_eq w id) [
      | inl same ↦ rw (name_found id names (rw same at listed)) refl
      | inr other ↦ elim (cases_Bool (list_any (eqb id) names)) [
        | inl there ↦ rw (asker_is id names, there) refl
        | inr absent ↦ rw (asker_is id names, absent) (sym (ne_eqb w id other))
      ]
    ]

-- the principal that the row names, if any, is one of the names
abbrev Named : List ℕ → Row → Type 0
Named names row = IfSome row.who (Contains names)

same_places : (names : List ℕ) (rows : List Row) (q : Asked) (k : ℕ) → AllByRecursion (Named names) rows → places_from k (can_be (asker_of q.principal names) q.op) rows ≡ places_from k (can_match q) rows
same_places names [] q k each = refl
same_places names (row ∷ rows) q k each =
    let same : can_be (asker_of q.principal names) q.op row ≡ can_match q row = ap (λ (b : Bool). b && can_be_for q.op row) (same_who names row.who q.principal each.0) in
    rw (same, same_places names rows q (k + 1) each.1) refl

-- two lists whose elements are the same, seen by f and by g
pub mapped_within : {A B C : Type 0} (f : A → C) (g : B → C) (xs : List A) (ys : List B) (i : ℕ) (y : B) → map f xs ≡ map g ys → slice_get ys i ≡ Some y → i < length xs
mapped_within f g xs ys i y are here =
    let lengths : length (map f xs) ≡ length (map g ys) = ap length are in
    omega (arith, lengths, length-map xs f, length-map ys g, slice_get_within ys i y here)

pub mapped_read : {A B C : Type 0} (f : A → C) (g : B → C) (xs : List A) (ys : List B) (i : ℕ) (x : A) (y : B) → map f xs ≡ map g ys → slice_get ys i ≡ Some y → x ≡ get_or xs i x → f x ≡ g y
mapped_read f g xs ys i x y are here is =
    let read : get_or (map g ys) i (f x) ≡ g y = get_or_from_slice_get (map g ys) i (g y) (f x) (slice_get-map g ys i ∙ ap (option_map g) here) in
    ap f is ∙ sym (get_or-map f xs i x) ∙ ap (λ l. get_or l i (f x)) are ∙ read

-- so the list that is read for a request has the rows that can match it
pub places-of_request : (names : List ℕ) (rows : List Row) (q : Asked) (list : List ℕ) → All (Named names) rows → list ≡ places_from 0 (can_be (asker_of q.principal names) q.op) rows → list ≡ places_from 0 (can_match q) rows
places-of_request names rows q list each is = is ∙ same_places names rows q 0 (recursion_from_All (Named names) rows each)

-- ---- the place of an asker

place_named : (names : List ℕ) (name i : ℕ) → slice_get names i ≡ Some name → slice_get (askers names) i ≡ Some (Some name)
place_named [] name i e = absurd cc
place_named (first ∷ names) name zero e = ap (λ (o : Option ℕ). Some o) e
place_named (first ∷ names) name (suc i) e = place_named names name i e

place_other : (names : List ℕ) → slice_get (askers names) (length names) ≡ Some None
place_other [] = refl
place_other (name ∷ names) = place_other names

not_found : (id : ℕ) (names : List ℕ) → (Contains names id → ⊥) → asker_of id names ≡ None
not_found id [] apart = refl
not_found id (name ∷ names) apart =
    elim (cases_eq id name) [
      | inl same ↦ absurd (apart (0, omega arith, sym same))
      | inr other ↦ rw (ne_eqb id name other) (not_found id names (λ w. apart (suc w.0, omega (arith, w.1), w.2)))
    ]

pub place-found : (names : List ℕ) (id i : ℕ) → (i < length names) × (get_or names i 0 ≡ id) → slice_get (askers names) i ≡ Some (asker_of id names)
place-found names id i at =
    let here : slice_get names i ≡ Some id = slice_get-get_or names i 0 at.0 ∙ ap (λ (n : ℕ). Some n) at.1 in
    place_named names id i here ∙ ap (λ (o : Option ℕ). Some o) (sym (name_found id names (i, at.0, get_or_default names i id 0 at.0 ∙ at.1)))

pub place-got : (names : List ℕ) (id i : ℕ) → slice_get names i ≡ Some id → slice_get (askers names) i ≡ Some (asker_of id names)
place-got names id i got = place-found names id i (slice_get_within names i id got, get_or_from_slice_get names i id 0 got)

pub place-none : (names : List ℕ) (id i : ℕ) → (i ≤ length names) × ((k : ℕ) → k < i → get_or names k 0 < id) × ((k : ℕ) → i ≤ k → k < length names → id < get_or names k 0) → slice_get (askers names) (length names) ≡ Some (asker_of id names)
place-none names id i past =
    place_other names ∙ ap (λ (o : Option ℕ). Some o) (sym (not_found id names (λ w. elim (cases_lt w.0 i) [
      | inl lt ↦ omega (arith, past.1 w.0 lt, get_or_default names w.0 id 0 w.1, w.2)
      | inr le ↦ omega (arith, past.2 w.0 le w.1, get_or_default names w.0 id 0 w.1, w.2)
    ])))

-- a search in rising names finds the place of the id, or the place where it would be
pub searched-names : (names : List ℕ) (id : ℕ) (r : Result ℕ ℕ) → IsStrictlyIncreasing names → IsBinarySearchResult (λ y. nat_cmp y id) names r → MatchResult r (λ i. (i < length names) × (get_or names i 0 ≡ id)) (λ i. (i ≤ length names) × ((k : ℕ) → k < i → get_or names k 0 < id) × ((k : ℕ) → i ≤ k → k < length names → id < get_or names k 0))
searched-names names id r rise h = searched names id r h (λ i j le lt. non_decreasing_from_sorted names (sorted_from_strictly_increasing names rise) i j 0 le lt)

-- ---- the names that are kept

more_names : (who : Option ℕ) (ids names : List ℕ) → ((x : ℕ) → Contains (cons_option who ids) x → Contains names x) → IfSome who (Contains names) × ((x : ℕ) → Contains ids x → Contains names x)
more_names None ids names into = (tt, into)
more_names (Some id) ids names into = (into id (0, omega arith, refl), λ x w. into x (suc w.0, omega (arith, w.1), w.2))

named_within : (rows : List Row) (names : List ℕ) → ((x : ℕ) → Contains (filter_map (λ row. row.who) rows) x → Contains names x) → AllByRecursion (Named names) rows
named_within [] names into = tt
named_within (row ∷ rows) names into =
    let more = more_names row.who (filter_map (λ r. r.who) rows) names into in
    (more.0, named_within rows names more.1)

-- so what is sorted and cleared of repeats has the names of all rows
pub each-named : (rows : List Row) (ids sorted names : List ℕ) → ids ≡ filter_map (λ row. row.who) rows → IsPermutation ids sorted → names ≡ dedup eqb sorted → All (Named names) rows
each-named rows ids sorted names are moved is =
    All-from_recursion (Named names) rows (named_within rows names (λ x w. rw is (Contains-dedup_nat sorted x (Contains-permutation ids sorted x moved (rw are w)))))

-- ---- a list is as long as there are rows that can match

-- one row more: its place is listed if it can match
places-step : (test : Row → Bool) (rows : List Row) (i : ℕ) (row : Row) → i < length rows → row ≡ get_or rows i row → places_from i test (drop i rows) ≡ cond (test row) (i ∷ places_from (i + 1) test (drop (i + 1) rows)) (places_from (i + 1) test (drop (i + 1) rows))
places-step test rows i row lt is = at_drop_more (places_from i test) rows i row lt ∙ rw (← is) refl

pub places-listed : (asker : Option ℕ) (op : Op) (rows : List Row) (list : List ℕ) (i : ℕ) (row : Row) → i < length rows → row ≡ get_or rows i row → can_be asker op row ≡ true
    → (list ++ i ∷ []) ++ places_from (i + 1) (can_be asker op) (drop (i + 1) rows) ≡ list ++ places_from i (can_be asker op) (drop i rows)
places-listed asker op rows list i row lt is holds =
    append_assoc list (i ∷ []) _ ∙ ap (λ (ps : List ℕ). list ++ ps) (sym (places-step (can_be asker op) rows i row lt is ∙ rw holds refl))

pub places-passed : (asker : Option ℕ) (op : Op) (rows : List Row) (list : List ℕ) (i : ℕ) (row : Row) → i < length rows → row ≡ get_or rows i row → can_be asker op row ≡ false
    → list ++ places_from (i + 1) (can_be asker op) (drop (i + 1) rows) ≡ list ++ places_from i (can_be asker op) (drop i rows)
places-passed asker op rows list i row lt is fails =
    ap (λ (ps : List ℕ). list ++ ps) (sym (places-step (can_be asker op) rows i row lt is ∙ rw fails refl))

pub length-places : (k : ℕ) (test : Row → Bool) (rows : List Row) → length (places_from k test rows) ≡ length (filter test rows)
length-places k test [] = refl
length-places k test (row ∷ rows) =
    elim (cases_Bool (test row)) [
      | inl holds ↦ rw holds (ap suc (length-places (k + 1) test rows))
      | inr fails ↦ rw fails (length-places (k + 1) test rows)
    ]
