-- What an arena keeps and what it is seen as, through each call.
use Rattle.std.proofs.Common.{◌≡◌, ◌≢◌, ℕ, ◌+◌, ◌-◌, ◌*◌, ◌<◌, ◌≤◌, ◌++◌, Bool, true, false, cond, List, [], ◌∷◌, length, get_or, set, Option, Some, None, is_some, IsSome, IfSome, IsErrOf, Ok, Err, refl, sym, ap, subst, ◌∙◌, inl, inr, arith, length-set, length-append, get_or-set_other, get_or-set_same, true≢false}
use Rattle.std.proofs.lemmas.Bool.{cases_eq, cases_lt}
use Rattle.std.proofs.lemmas.List.{get_or_past, get_or_append_left, get_or-append-add}
use Rattle.pl_arena.specs.Arena.{Arena, frame_bytes, IsOut, IsFull, with_frame, without_frame}
use Rattle.pl_arena.specs.declared.arena.TakeFault.{TakeFault}
use Rattle.pl_arena.specs.declared.arena.TakeFault.TheVariants.{Full, NoMemory}
use Rattle.pl_arena.specs.Free.{link, links, held, arena_of, IsGiven, IsFreeList, IsArena}
use Rattle.pl_arena.proofs.Rows.{Row}
use Rattle.pl_arena.proofs.Chains.{same_list, pushed_list, given_list, taken_list, first_of, none_given}
use Rattle.pl_arena.proofs.Gathered.{frame_is, put_frame, remove_frame, insert_here}

module _ (frames : Row) (outs : List Bool) where
  held_out : (k : ℕ) → get_or outs k false ≡ true → held frames outs k ≡ Some (get_or frames k [])
  held_out k e = ap (λ b. cond b (Some (get_or frames k [])) None) e

  held_not : (k : ℕ) → get_or outs k false ≡ false → held frames outs k ≡ None
  held_not k e = ap (λ b. cond b (Some (get_or frames k [])) None) e

  flag_of : (k : ℕ) → IsSome (held frames outs k) → get_or outs k false ≡ true
  flag_of k some = by_case (get_or outs k false) refl
    where
      by_case : (b : Bool) → get_or outs k false ≡ b → b ≡ true
      by_case true e = refl
      by_case false e = absurd (true≢false (sym some ∙ ap is_some (held_not k e)))

  within_outs : (k : ℕ) → get_or outs k false ≡ true → k < length outs
  within_outs k e =
      elim (cases_lt k (length outs)) [
        | inl lt ↦ lt
        | inr ge ↦ absurd (true≢false (sym e ∙ get_or_past outs k false ge))
      ]

  -- an arena seen as `seen`, at a number that it has out
  module _ (max : ℕ) (seen : Arena) (view : arena_of frames outs max ≡ seen) (k : ℕ) where
    pub out_flag : IsOut seen k → get_or outs k false ≡ true
    out_flag is = flag_of k (subst IsSome (ap (λ a. frame_bytes a k) (sym view) ∙ frame_is frames outs max k) is)

    pub out_within : IsOut seen k → k < length outs
    out_within is = within_outs k (out_flag is)

    pub out_bytes : IsOut seen k → frame_bytes seen k ≡ Some (get_or frames k [])
    out_bytes is = ap (λ a. frame_bytes a k) (sym view) ∙ frame_is frames outs max k ∙ held_out k (out_flag is)

    pub seen_is : frame_bytes seen k ≡ held frames outs k
    seen_is = ap (λ a. frame_bytes a k) (sym view) ∙ frame_is frames outs max k

    -- whether it is out
    pub flag_is : get_or outs k false ≡ is_some (frame_bytes seen k)
    flag_is = by_case (get_or outs k false) refl ∙ ap is_some (sym seen_is)
      where
        by_case : (b : Bool) → get_or outs k false ≡ b → get_or outs k false ≡ is_some (held frames outs k)
        by_case true e = e ∙ sym (ap is_some (held_out k e))
        by_case false e = e ∙ sym (ap is_some (held_not k e))

module _ (frames : Row) (outs : List Bool) (head max : ℕ) (kept : IsArena frames outs head max) where
  -- the bytes of a frame that is out are written
  module _ (k : ℕ) (out : get_or outs k false ≡ true) (w : List ℕ) where
    abbrev written : Row
    written = set frames k w

    in_memory : k < length frames
    in_memory = omega (arith, kept.memory, within_outs frames outs k out)

    pub written_kept : IsArena written outs head max
    written_kept = record {
      memory = omega (arith, length-set frames k w, kept.memory);
      limit = kept.limit;
      some = kept.some;
      few = kept.few;
      list = (
        kept.list.0,
        same_list (links frames) (links written) outs head kept.list.0
            (λ id is. ap link (get_or-set_other frames k id w [] (λ e. true≢false (sym out ∙ ap (λ j. get_or outs j false) (sym e) ∙ is.1)))) kept.list.1,
      );
    }

    pub written_is : arena_of written outs max ≡ with_frame (arena_of frames outs max) k w
    written_is = put_frame frames written outs outs max k
        (λ q n. ap (λ b. cond (get_or outs q false) (Some b) None) (get_or-set_other frames k q w [] n)) w
        (held_out written outs k out ∙ ap Some (get_or-set_same frames k w [] in_memory))

  -- a frame that is out is given back, with the number of the list in it
  module _ (k : ℕ) (out : get_or outs k false ≡ true) (w : List ℕ) (here : link w ≡ head) where
    pub given_kept : IsArena (set frames k w) (set outs k false) (k + 1) max
    given_kept =
        let within = within_outs frames outs k out in record {
          memory = omega (arith, length-set frames k w, length-set outs k false, kept.memory);
          limit = omega (arith, length-set outs k false, kept.limit);
          some = kept.some;
          few = kept.few;
          list = (
            k ∷ kept.list.0,
            given_list (links frames) outs (links (set frames k w)) head k kept.list.0 within out
                (ap link (get_or-set_same frames k w [] (omega (arith, within, kept.memory))) ∙ here)
                (λ id n. ap link (get_or-set_other frames k id w [] n)) kept.list.1,
          );
        }

    pub given_is : arena_of (set frames k w) (set outs k false) max ≡ without_frame (arena_of frames outs max) k
    given_is = remove_frame frames (set frames k w) outs (set outs k false) max k
        (λ q n.
        ap (λ b. cond b (Some (get_or (set frames k w) q [])) None) (get_or-set_other outs k q false false n)
        ∙ ap (λ b. cond (get_or outs q false) (Some b) None) (get_or-set_other frames k q w [] n))
        (held_not (set frames k w) (set outs k false) k (get_or-set_same outs k false false (within_outs frames outs k out)))

  -- the first of the free list is taken again
  module _ (some : 0 < head) (w : List ℕ) where
    abbrev first : ℕ
    first = head - 1

    list_here : (rest : List ℕ) × IsFreeList (links frames) outs (first + 1) (first ∷ rest)
    list_here =
        let f = first_of (links frames) outs head kept.list.0 some kept.list.1 in
        let same : head ≡ first + 1 = omega (arith, some) in
        (f.0, subst (λ h. IsFreeList (links frames) outs h (first ∷ f.0)) same (subst (λ ids. IsFreeList (links frames) outs head ids) f.1 kept.list.1))

    pub first_given : IsGiven outs first
    first_given = (list_here.1.given first).0 (inl refl)

    pub taken_kept : IsArena (set frames first w) (set outs first true) (links frames first) max
    taken_kept = record {
      memory = omega (arith, length-set frames first w, length-set outs first true, kept.memory);
      limit = omega (arith, length-set outs first true, kept.limit);
      some = kept.some;
      few = kept.few;
      list = (list_here.0, taken_list (links frames) outs (links (set frames first w)) first list_here.0 (λ id n. ap link (get_or-set_other frames first id w [] n)) list_here.1);
    }

    pub taken_is : arena_of (set frames first w) (set outs first true) max ≡ with_frame (arena_of frames outs max) first w
    taken_is = put_frame frames (set frames first w) outs (set outs first true) max first
        (λ q n.
        ap (λ b. cond b (Some (get_or (set frames first w) q [])) None) (get_or-set_other outs first q true false n)
        ∙ ap (λ b. cond (get_or outs q false) (Some b) None) (get_or-set_other frames first q w [] n))
        w
        (held_out (set frames first w) (set outs first true) first (get_or-set_same outs first true false first_given.0)
        ∙ ap Some (get_or-set_same frames first w [] (omega (arith, first_given.0, kept.memory))))

    pub first_within : first < 64 * max
    first_within = omega (arith, first_given.0, kept.limit)

    pub first_fresh : frame_bytes (arena_of frames outs max) first ≡ None
    first_fresh = frame_is frames outs max first ∙ held_not frames outs first first_given.1

    -- so not every frame is out
    pub not_full : IsFull (arena_of frames outs max) → ⊥
    not_full full = true≢false (sym (full first first_within) ∙ ap is_some first_fresh)

  -- a frame is taken that was never out
  module _ (below : length outs < 64 * max) (w : List ℕ) where
    abbrev next : ℕ
    next = length outs

    abbrev frames' : Row
    frames' = frames ++ w ∷ []

    abbrev outs' : List Bool
    outs' = outs ++ true ∷ []

    long : length outs' ≡ next + 1
    long = length-append outs (true ∷ [])

    next_out : get_or outs' next false ≡ true
    next_out = ap (λ k. get_or outs' k false) (omega arith) ∙ get_or-append-add outs (true ∷ []) 0 false

    next_bytes : get_or frames' next [] ≡ w
    next_bytes = ap (λ k. get_or frames' k []) (omega (arith, kept.memory)) ∙ get_or-append-add frames (w ∷ []) 0 []

    before : (q : ℕ) → q < next → get_or frames' q [] ≡ get_or frames q []
    before q lt = get_or_append_left frames (w ∷ []) [] q (omega (arith, lt, kept.memory))

    others : (q : ℕ) → q ≢ next → held frames' outs' q ≡ held frames outs q
    others q n =
        elim (cases_lt q next) [
          | inl lt ↦ (λ j. cond (get_or_append_left outs (true ∷ []) false q lt j) (Some (before q lt j)) None)
          | inr ge ↦ held_not frames' outs' q (get_or_past outs' q false (omega (arith, long, ge, n))) ∙ sym (held_not frames outs q (get_or_past outs q false ge))
        ]

    pub new_kept : IsArena frames' outs' head max
    new_kept = record {
      memory = omega (arith, long, length-append frames (w ∷ []), kept.memory);
      limit = omega (arith, long, below);
      some = kept.some;
      few = kept.few;
      list = (
        kept.list.0,
        same_list (links frames) (links frames') outs' head kept.list.0
            (λ id is. ap link (before id (omega (arith, long, is.0, (λ (e : id ≡ next). true≢false (sym next_out ∙ ap (λ j. get_or outs' j false) (sym e) ∙ is.1))))))
            (pushed_list (links frames) outs head kept.list.0 kept.list.1),
      );
    }

    pub new_is : arena_of frames' outs' max ≡ with_frame (arena_of frames outs max) next w
    new_is = put_frame frames frames' outs outs' max next others w (held_out frames' outs' next next_out ∙ ap Some next_bytes)

  -- a number that was never out
  module _ (place : ℕ) (e : place ≡ length outs) (open_yet : place ≡ 64 * max → ⊥) where
    pub place_below : place < 64 * max
    place_below = omega (arith, e, kept.limit, open_yet)

    pub place_fresh : frame_bytes (arena_of frames outs max) place ≡ None
    place_fresh = frame_is frames outs max place ∙ held_not frames outs place (get_or_past outs place false (omega (arith, e)))

    pub place_not_full : IsFull (arena_of frames outs max) → ⊥
    place_not_full full = true≢false (sym (full place place_below) ∙ ap is_some place_fresh)

  -- all numbers were out if the arena is full
  pub full_only : (place : ℕ) → place ≡ length outs → IsFull (arena_of frames outs max) → place ≡ 64 * max
  full_only place e f =
      elim (cases_eq place (64 * max)) [
        | inl is ↦ is
        | inr n ↦ absurd (place_not_full place e n f)
      ]

-- it is taken, after those that were out
module _ (frames : Row) (outs : List Bool) (head max : ℕ) (kept : IsArena frames outs head max) (place : ℕ) (e : place ≡ length outs) (open_yet : place ≡ 64 * max → ⊥)
    (w : List ℕ) (frames' : Row) (grown : frames' ≡ frames ++ w ∷ []) (outs' : List Bool) (pushed : outs' ≡ outs ++ true ∷ []) where
  below' : length outs < 64 * max
  below' = omega (arith, e, place_below frames outs head max kept place e open_yet)

  pub extended_kept : IsArena frames' outs' head max
  extended_kept =
      subst (λ (fs : Row). IsArena fs outs' head max) (sym grown)
      (subst (λ (os : List Bool). IsArena (frames ++ w ∷ []) os head max) (sym pushed) (new_kept frames outs head max kept below' w))

  pub extended_is : arena_of frames' outs' max ≡ with_frame (arena_of frames outs max) place w
  extended_is =
      (λ j. arena_of (grown j) (pushed j) max)
      ∙ new_is frames outs head max kept below' w
      ∙ (λ j. with_frame (arena_of frames outs max) (sym e j) w)

-- a frame that was put is out
pub now_out : (old new : Arena) (k : ℕ) (w : List ℕ) → new ≡ with_frame old k w → IsOut new k
now_out old new k w e = ap is_some (ap (λ a. frame_bytes a k) e ∙ insert_here old.out k w k refl)

pub ok_is_no_fault : {X E : Type 0} (x : X) (e : E) → IsErrOf {T = X} {E = E} (Ok x) e → ⊥
ok_is_no_fault x e h = cc

module _ {X Y : Type 0} (fault : TakeFault) where
  -- a fault stays what it is whatever was asked for
  pub of_fault : IsErrOf {T = X} {E = TakeFault} (Err fault) Full → IsErrOf {T = Y} {E = TakeFault} (Err fault) Full
  of_fault e = cc

pub no_memory_is_not_full : {X : Type 0} → IsErrOf {T = X} {E = TakeFault} (Err NoMemory) Full → ⊥
no_memory_is_not_full e = cc

-- if no frame is free and all were out, each is
module _ (frames : Row) (outs : List Bool) (max : ℕ) (kept : IsArena frames outs 0 max) (all : length outs ≡ 64 * max) where
  pub full : IsFull (arena_of frames outs max)
  full id within = ap is_some (frame_is frames outs max id ∙ held_out frames outs id (by_case (get_or outs id false) refl))
    where
      by_case : (b : Bool) → get_or outs id false ≡ b → get_or outs id false ≡ true
      by_case true e = e
      by_case false e = absurd (none_given (links frames) outs kept.list.0 kept.list.1 id (omega (arith, within, all), e))

-- the arena at the start
pub first_kept : (max : ℕ) → 1 ≤ max → max ≤ 65536 → IsArena [] [] 0 max
first_kept max some few = record {
  memory = omega arith;
  limit = omega arith;
  some = some;
  few = few;
  list = ([], record { chain = refl; once = tt; given = λ id. ((λ a. absurd a), (λ is. absurd (omega (arith, is.0)))) });
}

-- what holds of the bytes that a frame has
pub if_some : (P : List ℕ → Type 0) (o : Option (List ℕ)) (w : List ℕ) → o ≡ Some w → P w → IfSome o P
if_some P o w e p = subst (λ (x : Option (List ℕ)). IfSome x P) (sym e) p

pub same_bytes : (x y : List ℕ) → Some x ≡ Some y → x ≡ y
same_bytes x y e = cc
