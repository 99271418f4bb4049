-- The map that frames and the list of which are out make.
use Rattle.std.proofs.Common.{◌≡◌, ◌≢◌, ℕ, zero, suc, ◌<◌, ◌≤◌, Bool, true, false, cond, List, [], length, get_or, Option, Some, None, refl, sym, ap, ◌∙◌, inl, inr, arith}
use mathlib.Core.Bool.{false≢true}
use Rattle.std.proofs.lemmas.Bool.{cases_eq, cases_lt}
use Rattle.std.proofs.lemmas.List.{get_or_past}
use Rattle.std.specs.Ordering.{nat_cmp, eq_by_cmp, is_eq}
use Rattle.std.specs.declared.cmp.Ordering.{Ordering}
use Rattle.std.specs.declared.cmp.Ordering.TheVariants.{Less, Equal, Greater}
use Rattle.std.proofs.lemmas.Cmp.{nat_cmp_total, eq_by_cmp_equiv}
use Rattle.std.specs.FinMap as maps
use Rattle.pl_arena.specs.Arena.{Arena, frame_bytes, with_frame, without_frame}
use Rattle.pl_arena.specs.Free.{held, put, map_below, arena_of}

-- equal numbers compare as equal, and different ones do not
pub same_number : (q k : ℕ) → q ≡ k → eq_by_cmp nat_cmp q k ≡ true
same_number q k e = ap (eq_by_cmp nat_cmp q) (sym e) ∙ (eq_by_cmp_equiv nat_cmp_total).refl q

equal_by : (q k : ℕ) (r : Ordering) → nat_cmp q k ≡ r → is_eq r ≡ true → q ≡ k
equal_by q k Less e is = absurd (false≢true is)
equal_by q k Equal e is = maps.nat_cmp-IsAntisymmetric q k e
equal_by q k Greater e is = absurd (false≢true is)

pub other_number : (q k : ℕ) → q ≢ k → eq_by_cmp nat_cmp q k ≡ false
other_number q k differs = by_case (eq_by_cmp nat_cmp q k) refl
  where
    by_case : (b : Bool) → eq_by_cmp nat_cmp q k ≡ b → b ≡ false
    by_case false e = refl
    by_case true e = absurd (differs (equal_by q k (nat_cmp q k) refl e))

abbrev Frames : Type 0
Frames = maps.FinMap nat_cmp (List ℕ)

module _ (m : Frames) (k : ℕ) (w : List ℕ) (q : ℕ) where
  pub insert_here : q ≡ k → maps.get (maps.insert m k w) q ≡ Some w
  insert_here e = maps.get-insert nat_cmp_total m k w q ∙ ap (λ t. cond t (Some w) (maps.get m q)) (same_number q k e)

  pub insert_other : q ≢ k → maps.get (maps.insert m k w) q ≡ maps.get m q
  insert_other n = maps.get-insert nat_cmp_total m k w q ∙ ap (λ t. cond t (Some w) (maps.get m q)) (other_number q k n)

module _ (m : Frames) (k q : ℕ) where
  pub remove_here : q ≡ k → maps.get (maps.remove m k) q ≡ None
  remove_here e = maps.get-remove nat_cmp_total m k q ∙ ap (λ t. cond t None (maps.get m q)) (same_number q k e)

  pub remove_other : q ≢ k → maps.get (maps.remove m k) q ≡ maps.get m q
  remove_other n = maps.get-remove nat_cmp_total m k q ∙ ap (λ t. cond t None (maps.get m q)) (other_number q k n)

put_other : (m : Frames) (k q : ℕ) (o : Option (List ℕ)) → q ≢ k → maps.get (put m k o) q ≡ maps.get m q
put_other m k q None n = refl
put_other m k q (Some w) n = insert_other m k w q n

put_here : (m : Frames) (k : ℕ) (o : Option (List ℕ)) → maps.get m k ≡ None → maps.get (put m k o) k ≡ o
put_here m k None e = e
put_here m k (Some w) e = insert_here m k w k refl

pub past_map_below : (n : ℕ) (f : ℕ → Option (List ℕ)) (q : ℕ) → n ≤ q → maps.get (map_below n f) q ≡ None
unfolding map_below
past_map_below zero f q past = maps.get-empty nat_cmp q
past_map_below (suc n) f q past = put_other (map_below n f) n q (f n) (λ e. absurd (omega (arith, e, past))) ∙ past_map_below n f q (omega (arith, past))

pub in_map_below : (n : ℕ) (f : ℕ → Option (List ℕ)) (q : ℕ) → q < n → maps.get (map_below n f) q ≡ f q
unfolding map_below
in_map_below zero f q within = absurd (omega (arith, within))
in_map_below (suc n) f q within =
    elim (cases_eq q n) [
      | inl e ↦ ap (λ k. maps.get (put (map_below n f) n (f n)) k) e ∙ put_here (map_below n f) n (f n) (past_map_below n f n (omega arith)) ∙ ap f (sym e)
      | inr d ↦ put_other (map_below n f) n q (f n) d ∙ in_map_below n f q (omega (arith, within, d))
    ]

-- what an arena has under a number
pub frame_is : (frames : List (List ℕ)) (outs : List Bool) (max q : ℕ) → frame_bytes (arena_of frames outs max) q ≡ held frames outs q
frame_is frames outs max q =
    elim (cases_lt q (length outs)) [
      | inl lt ↦ in_map_below (length outs) (held frames outs) q lt
      | inr ge ↦ past_map_below (length outs) (held frames outs) q ge ∙ sym (ap (λ b. cond b (Some (get_or frames q [])) None) (get_or_past outs q false ge))
    ]

-- an arena after a change of one frame
module _ (frames frames' : List (List ℕ)) (outs outs' : List Bool) (max k : ℕ) (others : (q : ℕ) → q ≢ k → held frames' outs' q ≡ held frames outs q) where
  abbrev old : Arena
  old = arena_of frames outs max

  abbrev new : Arena
  new = arena_of frames' outs' max

  pub put_frame : (w : List ℕ) → held frames' outs' k ≡ Some w → new ≡ with_frame old k w
  put_frame w here =
      let same = maps.same_map nat_cmp_total maps.nat_cmp-IsAntisymmetric new.out (maps.insert old.out k w) (λ q.
      frame_is frames' outs' max q
      ∙ elim (cases_eq q k) [
        | inl e ↦ ap (held frames' outs') e ∙ here ∙ sym (insert_here old.out k w q e)
        | inr n ↦ others q n ∙ sym (insert_other old.out k w q n ∙ frame_is frames outs max q)
      ]) in
      ap (λ m. record { max_chunks = max; out = m }) same

  pub remove_frame : held frames' outs' k ≡ None → new ≡ without_frame old k
  remove_frame here =
      let same = maps.same_map nat_cmp_total maps.nat_cmp-IsAntisymmetric new.out (maps.remove old.out k) (λ q.
      frame_is frames' outs' max q
      ∙ elim (cases_eq q k) [
        | inl e ↦ ap (held frames' outs') e ∙ here ∙ sym (remove_here old.out k q e)
        | inr n ↦ others q n ∙ sym (remove_other old.out k q n ∙ frame_is frames outs max q)
      ]) in
      ap (λ m. record { max_chunks = max; out = m }) same

-- the same frames under each number
pub same_arena : (frames frames' : List (List ℕ)) (outs : List Bool) (max : ℕ) → ((q : ℕ) → held frames' outs q ≡ held frames outs q) → arena_of frames' outs max ≡ arena_of frames outs max
same_arena frames frames' outs max all =
    ap (λ m. record { max_chunks = max; out = m }) (maps.same_map nat_cmp_total maps.nat_cmp-IsAntisymmetric (arena_of frames' outs max).out (arena_of frames outs max).out (λ q.
    frame_is frames' outs max q ∙ all q ∙ sym (frame_is frames outs max q)))
