-- The free list through each change.
use Rattle.std.proofs.Common.{◌≡◌, ◌≢◌, ℕ, ◌+◌, ◌-◌, ◌<◌, ◌++◌, Bool, true, false, List, [], ◌∷◌, length, get_or, set, refl, sym, ap, subst, ◌∙◌, inl, inr, arith, length-set, length-append, get_or-set_other, get_or-set_same, true≢false}
use Rattle.std.proofs.lemmas.Bool.{cases_eq, cases_lt}
use Rattle.std.proofs.lemmas.List.{get_or_append_left, get_or-append-add}
use Rattle.pl_arena.specs.Free.{IsChain, Among, IsGiven, IsFreeList}

module _ (f g : ℕ → ℕ) where
  -- links that are the same at each frame of the list
  pub same_chain : (head : ℕ) (ids : List ℕ) → ((id : ℕ) → Among id ids → g id ≡ f id) → IsChain f head ids → IsChain g head ids
  same_chain head [] same chain = chain
  same_chain head (x ∷ xs) same chain =
      (chain.0, subst (λ k. IsChain g k xs) (sym (same x (inl refl))) (same_chain (f x) xs (λ id a. same id (inr a)) chain.1))

  pub same_list : (outs : List Bool) (head : ℕ) (ids : List ℕ) → ((id : ℕ) → IsGiven outs id → g id ≡ f id) → IsFreeList f outs head ids → IsFreeList g outs head ids
  same_list outs head ids same list = record {
    chain = same_chain head ids (λ id a. same id ((list.given id).0 a)) list.chain;
    once = list.once;
    given = list.given;
  }

is_before : (outs : List Bool) (id : ℕ) (b : Bool) → id < length outs → get_or (outs ++ b ∷ []) id false ≡ get_or outs id false
is_before outs id b lt = get_or_append_left outs (b ∷ []) false id lt

last_is : (outs : List Bool) (id : ℕ) (b : Bool) → id ≡ length outs → get_or (outs ++ b ∷ []) id false ≡ b
last_is outs id b e = ap (λ k. get_or (outs ++ b ∷ []) k false) (omega (arith, e)) ∙ get_or-append-add outs (b ∷ []) 0 false

module _ (f : ℕ → ℕ) (outs : List Bool) where
  -- a frame that was never out, and is now
  pub pushed_list : (head : ℕ) (ids : List ℕ) → IsFreeList f outs head ids → IsFreeList f (outs ++ true ∷ []) head ids
  pushed_list head ids list =
      let long = length-append outs (true ∷ []) in record {
        chain = list.chain;
        once = list.once;
        given = λ id. (
          (λ a. let was = (list.given id).0 a in (omega (arith, long, was.0), is_before outs id true was.0 ∙ was.1)),
          (λ is.
              elim (cases_lt id (length outs)) [
                | inl lt ↦ (list.given id).1 (lt, sym (is_before outs id true lt) ∙ is.1)
                | inr ge ↦ absurd (true≢false (sym (last_is outs id true (omega (arith, long, is.0))) ∙ is.1))
              ]),
        );
      }

  -- a frame that is given back
  pub given_list : (g : ℕ → ℕ) (head i : ℕ) (ids : List ℕ) → i < length outs → get_or outs i false ≡ true → g i ≡ head → ((id : ℕ) → id ≢ i → g id ≡ f id)
      → IsFreeList f outs head ids → IsFreeList g (set outs i false) (i + 1) (i ∷ ids)
  given_list g head i ids within out here others list =
      let apart : Among i ids → ⊥ = λ a. true≢false (sym out ∙ ((list.given i).0 a).1) in
      let long = length-set outs i false in record {
        chain = (refl, subst (λ k. IsChain g k ids) (sym here) (same_chain f g head ids (λ id a. others id (λ e. apart (subst (λ k. Among k ids) e a))) list.chain));
        once = (apart, list.once);
        given = λ id. (
          (λ a.
              elim a [
                | inl e ↦ (omega (arith, long, within, e), ap (λ k. get_or (set outs i false) k false) e ∙ get_or-set_same outs i false false within)
                | inr b ↦ let was = (list.given id).0 b in
                    (omega (arith, long, was.0), get_or-set_other outs i id false false (λ e. apart (subst (λ k. Among k ids) e b)) ∙ was.1)
              ]),
          (λ is.
              elim (cases_eq id i) [
                | inl e ↦ inl e
                | inr n ↦ inr ((list.given id).1 (omega (arith, long, is.0), sym (get_or-set_other outs i id false false n) ∙ is.1))
              ]),
        );
      }

  -- the first of the list is taken again
  pub taken_list : (g : ℕ → ℕ) (i : ℕ) (ids : List ℕ) → ((id : ℕ) → id ≢ i → g id ≡ f id) → IsFreeList f outs (i + 1) (i ∷ ids) → IsFreeList g (set outs i true) (f i) ids
  taken_list g i ids others list =
      let apart = list.once.0 in
      let within : i < length outs = ((list.given i).0 (inl refl)).0 in
      let long = length-set outs i true in record {
        chain = same_chain f g (f i) ids (λ id a. others id (λ e. apart (subst (λ k. Among k ids) e a))) list.chain.1;
        once = list.once.1;
        given = λ id. (
          (λ a. let was = (list.given id).0 (inr a) in
              (omega (arith, long, was.0), get_or-set_other outs i id true false (λ e. apart (subst (λ k. Among k ids) e a)) ∙ was.1)),
          (λ is.
              elim (cases_eq id i) [
                | inl e ↦ absurd (true≢false (sym (ap (λ k. get_or (set outs i true) k false) e ∙ get_or-set_same outs i true false within) ∙ is.1))
                | inr n ↦
                    elim ((list.given id).1 (omega (arith, long, is.0), sym (get_or-set_other outs i id true false n) ∙ is.1)) [
                      | inl e ↦ absurd (n e)
                      | inr a ↦ a
                    ]
              ]),
        );
      }

  -- a list that a number above 0 leads to has a first frame
  pub first_of : (head : ℕ) (ids : List ℕ) → 0 < head → IsFreeList f outs head ids → (rest : List ℕ) × (ids ≡ (head - 1) ∷ rest)
  first_of head [] some list = absurd (omega (arith, list.chain))
  first_of head (x ∷ xs) some list = (xs, ap (λ k. k ∷ xs) (omega (arith, list.chain.0)))

  -- if the number is 0, no frame that was out is free
  pub none_given : (ids : List ℕ) → IsFreeList f outs 0 ids → (id : ℕ) → IsGiven outs id → ⊥
  none_given [] list id is = (list.given id).1 is
  none_given (x ∷ xs) list id is = absurd (omega (arith, list.chain.0))
