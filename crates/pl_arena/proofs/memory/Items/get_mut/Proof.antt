-- `get_mut` lends one item, and its owner follows what is written. Assumes `Logic`.
use Rattle.pl_arena.proofs.Steps.{◌≡◌, refl, sym, subst, ◌∙◌, ℕ, ◌+◌, ◌*◌, ◌<◌, ◌^◌, arith, List, [], ◌∷◌, ◌++◌, length, get_or, set, length-set, Ura, full_share, SProp, ent, sep, never, id⊢, Lft, GName, Share, Fml, ftrue, fsep, fat, froom, flft, fobs, fbor, Fn, named, w64, inst_fn, Val, vptr, vint, Env, Calls, Loops, WpFn, Tables, Logic, sem, fact, tables, tables_of, WpFn-mono, Item, ⋆, ‵, raw, ◌⊛◌, some, later, await, pick, at_ret, ◌$◌, ◌∵◌, !, qed, by, move, keep, use1, use2, split, join, group, rewrite, fsplit, fsplit3, fjoin, fpack, feq_l, flt_l, flt_i, suffices, frame, done, whole, sub, stop, fld, of_opd, bin, addr, size_lit, first, blocks, exec, returns, enter, alloc_all, pass_all, free_all, look_at, get, get_in, through, take_at, give_at, sets, sets_last, env, no, owns, mem, part_at, cell_at, part_of, layout, Ptr, block_ptr, in_a_block, usize, plain, mut_ref_to, nothing, opens, spared, Clauses, Ended, closing, on_entry, Meets, triple_of, entered, run_framed, says, needs, Stays, stay_dropped, walk_of, ends_at, Goes-dropped, Goes-spent_ref, walk_Meets, El, R, args, el_x, after, word, word-Good, Its, Sta, sz, Mark, start_told, item_at, item_fits, part_fits, Row, besides, taken_out, put_back}
use types.SemTy.{Body as Borrowed}
use denote.Builtin.{RefMutOf}
use denote.Follow.{follows, Part, lends_Part}
use denote.Ref.{MutBor, MutRef}
use Rattle.pl_arena.specs.Ownership.{places, items_own}
use Rattle.pl_arena.specs.Writes.{with_items}
use Rattle.pl_arena.specs.contracts.memory.Items.get_mut.Key.{name as #self}
use Rattle.pl_arena.proofs.memory.Items.get_mut.Statement as stated
use Rattle.pl_arena.proofs.memory.Items.get_mut.Code as code

module _ (E : El) where
  abbrev function : Fn
  function = inst_fn (args E) code.function

  abbrev ended : Ended
  ended = record {
    signature = record {
      lifetimes = 1;
      outlives = [];
      params = RefMutOf (0 ∷ []) tt (plain (λ _. Its E)) (λ _. tt) ∷ plain (λ _. Sta E) ∷ plain (λ _. usize) ∷ [];
      result = RefMutOf (0 ∷ []) tt (plain (λ _. R E)) (λ _. tt);
    };
    kept = (no, (no, (no, tt)));
  }

  abbrev stayed : Stays ended.signature.params ended.kept
  stayed = (stay_dropped (mut_ref_to (0 ∷ []) tt (plain (λ _. Its E))) no, (stay_dropped (plain (λ _. Sta E)) no, (stay_dropped (plain (λ _. usize)) no, tt)))

  abbrev Asks : (Its E).Denot → (Sta E).Denot → ℕ → Type 0
  Asks d start index = (start.first ≡ d.at) × (index < length d.items)

  abbrev Says : (Its E).Denot → ℕ → el_x E → Type 0
  Says d index x = (y : el_x E) → get_or d.items index y ≡ x

  -- the owner, once this was written
  abbrev written : (Its E).Denot → ℕ → el_x E → (Its E).Denot
  written d index w = with_items d (set d.items index w)

  abbrev spec : {M : Type 1} {𝓤 : Ura M} (𝓛 : Logic 𝓤) → Clauses 𝓤 ended
  spec {𝓤 = 𝓤} 𝓛 κs a = record {
    ghost = Unit {0};
    requires = λ _. fact 𝓤 (Asks a.0.now a.1.0 a.1.1.0);
    ensures = λ _ r w. sep 𝓤 (sem 𝓛 (follows (Its E) (R E) a.0.ghost_name r.ghost_name (written a.0.now a.1.1.0))) (fact 𝓤 (Says a.0.now a.1.1.0 r.now));
  }

module _ (E : El) {M : Type 1} {𝓤 : Ura M} (𝓛 : Logic 𝓤) (C : Calls 𝓤 𝓛.H) (Λ : Loops 𝓤 𝓛.H) (κ : Lft) (q : Share) (rb ro : ℕ) (γ : GName)
    (d : (Its E).Denot) (start : (Sta E).Denot) (index : ℕ) (us0 us1 us2 : List Val) where
  open 𝓛 use {H, A}

  abbrev self : MutBor (Its E).Denot
  self = record { ref_ptr = (rb, ro); ghost_name = γ; now = d }

  abbrev bound : (walk_of 𝓛 (ended E) (stayed E) (spec E 𝓛)).Ghost
  bound = (((κ, tt), (q, tt), tt, (self, (start, (index, tt))), (us0, (us1, (us2, tt)))), tt)

  abbrev Post : Val → SProp 𝓤
  Post = (walk_of 𝓛 (ended E) (stayed E) (spec E 𝓛)).post bound

  abbrev xs : List (el_x E)
  xs = d.items

  abbrev new : el_x E → (Its E).Denot
  new = written E d index

  module _ (vs : List Val) (b o : ℕ) where
    -- what the borrow keeps beside the item: the other items, the room, the mark, and its cell
    abbrev Rest : Fml
    Rest = fsep (besides E 𝓛 b xs index o) (fsep (froom (places (R E) d.room) b (length xs * sz E + o)) (fsep ((Mark E).own_val (tt, tt) vs) (cell_at full_share (Its E).mir vs rb ro)))

    back : d.at ≡ block_ptr b o → index < length xs → (length xs + d.room) * sz E < 2 ^ 63 → (w : el_x E)
        → ent 𝓤 (sep 𝓤 (sem 𝓛 ((mem (R E)).own_at w b (index * sz E + o))) (sem 𝓛 Rest)) (sem 𝓛 ((mem (Its E)).own_at (new w) rb ro))
    unfolding part_of
    back e within small w =
        let as_many : length xs ≡ length (new w).items = sym (length-set xs index w) in
        qed 𝓛 (‵ (part_at (R E) full_share w b (index * sz E + o)) ∷ ‵ Rest ∷ []) ∵ move ! (1 ∷ []) $ fsplit ! $ move ! (1 ∷ []) $ fsplit3 ! $
        -- [the room; the mark; its cell; the other items; the item]
        rewrite ! 0 (λ (k : ℕ). ‵ (froom (places (R E) d.room) b (k * sz E + o))) as_many refl $ move ! (4 ∷ 3 ∷ []) $
        use2 𝓛 (‵ (Row E 𝓛 b o (new w).items)) (put_back E 𝓛 b xs index w o (index * sz E + o) within refl) $ fjoin ! $
        flt_i ! ((length (new w).items + d.room) * sz E) (2 ^ 63) (subst (λ (k : ℕ). (k + d.room) * sz E < 2 ^ 63) as_many small) $ fjoin ! $
        rewrite ! 0 (λ (p : Ptr). ‵ (items_own (R E) p (new w).items d.room)) (sym e) refl $ move ! (1 ∷ 0 ∷ []) $ fjoin ! $ move ! (1 ∷ 0 ∷ []) $ fjoin ! $
        fpack ! (List Val) (λ us. fsep (cell_at full_share (Its E).mir us rb ro) ((Its E).own_val (new w) us)) vs $ done !

  exits : (v : Val) (r : MutBor (el_x E)) → Says E d index r.now
      → ent 𝓤 (sep 𝓤 (sem 𝓛 ((MutRef (named 0) κ (R E)).own_val r (v ∷ []))) (sep 𝓤 (A.lft κ q) (sem 𝓛 (follows (Its E) (R E) γ r.ghost_name new)))) (Post v)
  exits v r there =
      qed 𝓛 (‵ ((MutRef (named 0) κ (R E)).own_val r (v ∷ [])) ∷ ‵ (flft κ q) ∷ ‵ (follows (Its E) (R E) γ r.ghost_name new) ∷ []) ∵
      suffices ! _ (ends_at 𝓛 (ended E) (stayed E) (spec E 𝓛) bound v r (tt, (tt, (tt, tt))) (tt, (tt, (tt, tt)))) $
      nothing ! $ nothing ! $ fjoin ! $ nothing ! $ fjoin ! $ nothing ! $ fjoin ! $ join ! $ nothing ! $ move ! (2 ∷ 0 ∷ []) $ join ! $ join ! $ frame ! $ says ! there $ done !

  abbrev Had : List (Item 𝓤)
  Had = ‵ (fobs γ ((Its E).coded.code d)) ∷ ‵ (fbor κ (Borrowed (mem (Its E)) rb ro γ)) ∷ ‵ (flft κ q) ∷ []

  walk : Asks E d start index → index < 2 ^ 64 → ent 𝓤 (⋆ 𝓛 Had) (WpFn 𝓤 H C Λ (function E) (vptr rb ro ∷ word start.first ∷ vint w64 index ∷ []) Post)
  walk asked fits =
      let s = sz E in
      let as_now = (Its E).coded.code d in
      let many = length xs + d.room in
      let found = item_at xs index asked.1 in
      let x = get_or xs index found.0 in
      qed 𝓛 Had ∵ enter ! C Λ (function E) (vptr rb ro ∷ word start.first ∷ vint w64 index ∷ []) _ $
      alloc_all ! (λ l. pass_all ! refl ((tt, tt), (word-Good [] start.first, ((tt, record { fits = fits }), tt))) $
      let En : Env 𝓤 H = env (function E).locals l in
      opens ! tt (Its E) {h = d} rb ro (λ vs. move ! (1 ∷ []) $ fsplit ! $ move ! (1 ∷ []) $
      in_a_block ! d.at (λ p. items_own (R E) p xs d.room) (id⊢ 𝓤 (never 𝓤)) (λ b o e. fsplit ! $ flt_l ! (λ small. fsplit ! $
      let at = index * s + o in
      let tiny : s < 2 ^ 64 = item_fits many s (omega (arith, asked.1)) small in
      let far : index * s < 2 ^ 64 = part_fits index many s (omega (arith, asked.1)) small in
      let way = back vs b o e asked.1 small in
      -- [the row; the room; the mark; its cell; the open borrow; obs; auth; the locals]
      take_at ! 2 $ rewrite ! 0 (λ (p : Ptr). ‵ (fat full_share (layout (Sta E)) (l 2) 0 (word p))) (asked.0 ∙ e) refl $ give_at ! 2 $ first ! $ blocks ! $
      sets ! (bin ! (get ! refl) (size_lit ! (record { fits = tiny })) (record { fits = far })) refl (tt, record { fits = far }) $
      sets ! (bin ! (get_in ! (fld ! refl (stop !)) (sub ! 0 refl (whole !))) (get ! refl) tt) refl (tt, tt) $
      use1 𝓛 (‵ (part_at (R E) full_share x b at) ⊛ ‵ (besides E 𝓛 b xs index o)) (taken_out E 𝓛 b xs index found.0 o at asked.1 refl) $ split ! $
      sets_last ! (addr ! (through ! refl (stop !))) refl (tt, tt) $ exec ! C Λ En (after 1 (function E).body) (at_ret En Post) $ sets ! (of_opd ! (get ! refl)) refl (tt, tt) $
      -- [the item; the others; the room; the mark; its cell; the open borrow; obs; auth]
      move ! (3 ∷ 4 ∷ []) $ fjoin ! $ move ! (3 ∷ 0 ∷ []) $ fjoin ! $ move ! (2 ∷ 0 ∷ []) $ fjoin ! $ move ! (2 ∷ 3 ∷ 4 ∷ 1 ∷ 0 ∷ []) $ group ! 5 $
      use1 𝓛 (later (some (λ (δ : GName). raw (Part 𝓛 (Its E) (R E) new (named 0) κ q rb ro b at γ (sem 𝓛 (Rest vs b o)) way x δ))))
      (lends_Part 𝓛 (Its E) (R E) new (named 0) κ q rb ro b at γ (sem 𝓛 (Rest vs b o)) way as_now as_now x) $ await ! tt $ pick ! (λ δ.
      returns ! (look_at ! 0 refl) $ free_all ! refl $ keep ! (0 ∷ []) $
      by ! (exits (vptr b at) (record { ref_ptr = (b, at); ghost_name = δ; now = x }) (λ y. found.1 y ∙ sym (found.1 found.0))))))))

  entry : Asks E d start index → ent 𝓤 (on_entry 𝓛 (ended E).signature (κ, tt) (q, tt) (self, (start, (index, tt))) (us0, (us1, (us2, tt)))) (WpFn 𝓤 H C Λ (function E) (us0 ++ (us1 ++ (us2 ++ []))) Post)
  entry asked =
      qed 𝓛 ((‵ (flft κ q) ⊛ ‵ ftrue) ∷ ‵ (owns (MutRef (named 0) κ (Its E) ∷ Sta E ∷ usize ∷ []) (self, (start, (index, tt))) (us0, (us1, (us2, tt)))) ∷ []) ∵
      split ! $ move ! (2 ∷ []) $ fsplit ! $ fsplit3 ! $ feq_l ! (λ e0.
      move ! (2 ∷ []) $ fsplit ! $ start_told ! start.first us1 (λ e1.
      fsplit ! $ fsplit ! $ feq_l ! (λ e2. flt_l ! (λ fits. keep ! (1 ∷ 2 ∷ 3 ∷ []) $
      by ! (subst (λ (ws : List Val × List Val × List Val). ent 𝓤 (⋆ 𝓛 Had) (WpFn 𝓤 H C Λ (function E) (ws.0 ++ (ws.1 ++ (ws.2 ++ []))) Post)) (λ j. (sym e0 j, sym e1 j, sym e2 j)) (walk asked fits))))))

meets : (E : El) {M : Type 1} {𝓤 : Ura M} (𝓛 : Logic 𝓤) (𝓣 : Tables 𝓤 𝓛.H) → Meets 𝓛 (ended E).signature (WpFn 𝓤 𝓛.H 𝓣.C 𝓣.Λ (function E)) (closing 𝓛 (ended E) (spec E 𝓛))
meets E {𝓤 = 𝓤} 𝓛 𝓣 =
    walk_Meets 𝓛 (ended E) (stayed E)
    (Goes-spent_ref 𝓛 1 (0 ∷ []) tt (plain (λ _. Its E)), (Goes-dropped 𝓛 1 (plain (λ _. Sta E)) no (λ κs x f. refl), (Goes-dropped 𝓛 1 (plain (λ _. usize)) no (λ κs x f. refl), tt)))
    (spec E 𝓛) (WpFn 𝓤 𝓛.H 𝓣.C 𝓣.Λ (function E)) (WpFn-mono 𝓤 𝓛.H 𝓛.laws 𝓣 (function E))
    (λ z. let a = z.0.3 in let vss = z.0.4 in needs 𝓤 (Asks E a.0.now a.1.0 a.1.1.0) _
    (entry E 𝓛 𝓣.C 𝓣.Λ z.0.0.0 z.0.1.0 a.0.ref_ptr.0 a.0.ref_ptr.1 a.0.ghost_name a.0.now a.1.0 a.1.1.0 vss.0 vss.1.0 vss.1.1.0))

pub get_mut_spec : {M : Type 1} → stated.statement M
unfolding tables_of
get_mut_spec 𝓤 𝓛 𝓜 𝓡 wired X LX y =
    let E : El = record { row = X; laws = LX } in
    let 𝓣 : Tables 𝓤 𝓛.H = tables_of 𝓤 𝓛.H 𝓜 (tables 𝓤 𝓛.H 𝓜 𝓡 𝓡.env) in
    let k = #self (args E) in
    let G = closing 𝓛 (ended E) (spec E 𝓛) in
    spared 𝓛 (ended E).signature (𝓡.run (𝓡.env k)) (run_framed 𝓤 𝓛.H 𝓜 𝓡 (𝓡.env k)) 1 (X.lives, tt) G
    (entered 𝓤 𝓛.H (triple_of 𝓛 (ended E).signature G) 𝓣.C 𝓣.Λ k (function E) (code.unfolded 𝓤 𝓛.H 𝓜 𝓡 wired (X, tt)) (meets E 𝓛 𝓣)) ((y.0.0, y.0.1, tt, y.0.3, y.0.4), y.1)
