-- The lists of an index: what is seen of them, and a block that is entered or taken away.
use Rattle.std.proofs.Common.{◌≡◌, ℕ, ◌+◌, ◌-◌, ◌<◌, ◌||◌, Bool, true, false, cond, eqb, List, [], ◌∷◌, ◌++◌, length, take, drop, get_or, Some, unwrap_or, Result, Ok, Err, OnErr, Vec, refl, sym, ap, ◌∙◌, inl, inr, arith, length-append}
use mathlib.Core.Bool.{false≢true}
use Rattle.std.proofs.lemmas.List.{get_or_push, take_more, take-append-drop}
use Rattle.std.proofs.lemmas.List.Folds.{list_any-append}
use Rattle.std.proofs.lemmas.Map.Views.{exact_unsigned_eq}
use Rattle.std.proofs.lemmas.Cmp.{nat_eq_equiv}
use Rattle.std.specs.List.{list_any}
use Rattle.std.specs.Map.{lookup}
use Rattle.std.specs.HashMap.{HashMap}
use Rattle.std.specs.Ordering.{nat_cmp, eq_by_cmp}
use Rattle.std.proofs.lemmas.Cmp.{nat_cmp_total, eq_by_cmp_equiv}
use Rattle.std.specs.FinMap as maps
use Rattle.pl_pages.specs.Index.{AreUpTo, MayEndWith, ends_with, list_in, listed, seen_lists, with_lsn}
use Rattle.pl_pages.proofs.Frames.{other_number}

-- ---- the map, and what is seen of it

same_test : (q k : ℕ) → eq_by_cmp nat_cmp q k ≡ eqb q k
same_test q k = by_case (eqb q k) refl
  where
    by_case : (b : Bool) → eqb q k ≡ b → eq_by_cmp nat_cmp q k ≡ b
    by_case true e = ap (eq_by_cmp nat_cmp q) (sym (exact_unsigned_eq q k e)) ∙ (eq_by_cmp_equiv nat_cmp_total).refl q
    by_case false e = other_number q k (λ is. false≢true (sym e ∙ ap (eqb q) (sym is) ∙ nat_eq_equiv.refl q))

seen_at : {Z : Type 0} (es : List (ℕ × Vec ℕ Z)) (q : ℕ) → unwrap_or (maps.get (seen_lists es) q) [] ≡ list_in (lookup (eqb q) es)
seen_at [] q = ap (λ o. unwrap_or o []) (maps.get-empty nat_cmp q)
seen_at (e ∷ es) q =
    ap (λ o. unwrap_or o []) (maps.get-insert nat_cmp_total (seen_lists es) e.0 e.1.items q ∙ ap (λ b. cond b (Some e.1.items) (maps.get (seen_lists es) q)) (same_test q e.0))
    ∙ by_case (eqb q e.0) (seen_at es q)
  where
    by_case : (b : Bool) → unwrap_or (maps.get (seen_lists es) q) [] ≡ list_in (lookup (eqb q) es) → unwrap_or (cond b (Some e.1.items) (maps.get (seen_lists es) q)) [] ≡ list_in (cond b (Some e.1) (lookup (eqb q) es))
    by_case true rest = refl
    by_case false rest = rest

pub lists_seen : {S Z : Type 0} (m : HashMap ℕ (Vec ℕ Z) S) (q : ℕ) → unwrap_or (maps.get (seen_lists m.entries) q) [] ≡ listed m q
lists_seen m q = seen_at m.entries q

-- ---- one list

-- one that has only numbers up to n does not end with the next
pub not_last : (n lsn : ℕ) (xs : List ℕ) → AreUpTo n xs → lsn ≡ n + 1 → ends_with lsn xs ≡ false
not_last n lsn [] up next = by_case (eqb 0 lsn) refl
  where
    by_case : (b : Bool) → eqb 0 lsn ≡ b → eqb 0 lsn ≡ false
    by_case true e = absurd (omega (arith, exact_unsigned_eq 0 lsn e, next))
    by_case false e = e
not_last n lsn (x ∷ xs) up next = by_case (ends_with lsn (x ∷ xs)) refl
  where
    by_case : (b : Bool) → ends_with lsn (x ∷ xs) ≡ b → b ≡ false
    by_case true e = absurd (omega (arith, exact_unsigned_eq (get_or (x ∷ xs) (length (x ∷ xs) - 1) 0) lsn e, next, up (length (x ∷ xs) - 1) (omega arith)))
    by_case false e = refl

ends_pushed : (lsn : ℕ) (xs : List ℕ) → ends_with lsn (xs ++ lsn ∷ []) ≡ true
ends_pushed lsn xs =
    ap (λ x. eqb x lsn) (get_or_push xs lsn 0 (length (xs ++ lsn ∷ []) - 1) (omega (arith, length-append xs (lsn ∷ [])))) ∙ nat_eq_equiv.refl lsn

-- a list to which the LSN was added, or not, and then is once more
pub added_once : (lsn : ℕ) (xs ys : List ℕ) (so_far now : Bool) → ends_with lsn xs ≡ false → ys ≡ cond so_far (xs ++ lsn ∷ []) xs → cond now (with_lsn lsn ys) ys ≡ cond (so_far || now) (xs ++ lsn ∷ []) xs
added_once lsn xs ys true true none is = ap (with_lsn lsn) is ∙ ap (λ b. cond b (xs ++ lsn ∷ []) ((xs ++ lsn ∷ []) ++ lsn ∷ [])) (ends_pushed lsn xs)
added_once lsn xs ys true false none is = is
added_once lsn xs ys false true none is = ap (with_lsn lsn) is ∙ ap (λ b. cond b xs (xs ++ lsn ∷ [])) none
added_once lsn xs ys false false none is = is

-- ---- some of a list

module _ {X : Type 0} (test : X → Bool) where
  pub any_more : (xs : List X) (k : ℕ) (x : X) → k < length xs → x ≡ get_or xs k x → list_any test (take (k + 1) xs) ≡ (list_any test (take k xs) || test x)
  any_more xs k x within is =
      ap (list_any test) (take_more xs k x within ∙ ap (λ y. take k xs ++ y ∷ []) (sym is))
      ∙ list_any-append test (take k xs) (x ∷ []) ∙ ap (λ b. list_any test (take k xs) || b) (alone (test x))
    where
      alone : (b : Bool) → (b || false) ≡ b
      alone true = refl
      alone false = refl

  pub any_first : (xs : List X) (k : ℕ) → list_any test (take k xs) ≡ true → list_any test xs ≡ true
  any_first xs k some =
      ap (list_any test) (sym (take-append-drop k xs)) ∙ list_any-append test (take k xs) (drop k xs) ∙ ap (λ b. b || list_any test (drop k xs)) some

-- a list to which the LSN was added for some of the records, or not
pub partly : (lsn : ℕ) (xs ys : List ℕ) (some all : Bool) → (some ≡ true → all ≡ true) → ys ≡ cond some (xs ++ lsn ∷ []) xs → MayEndWith lsn all xs ys
partly lsn xs ys true all then is = inr (then refl, is)
partly lsn xs ys false all then is = inl is

-- no record is left
pub none_left : (lsn : ℕ) (may : Bool) (xs ys : List ℕ) → may ≡ false → MayEndWith lsn may xs ys → ys ≡ xs
none_left lsn may xs ys none (inl is) = is
none_left lsn may xs ys none (inr some) = absurd (false≢true (sym none ∙ some.0))

-- what holds anyway holds when a call failed
pub where_failed : {U E : Type 0} (r : Result U E) (P : Type 0) → P → OnErr r P
where_failed (Ok u) P p = tt
where_failed (Err e) P p = p
