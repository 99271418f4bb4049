-- `as_mut_slice` lends the items, and their owner follows what is written. Assumes `Logic`.
use Rattle.pl_arena.proofs.Steps.{◌≡◌, refl, sym, ap, subst, ◌∙◌, ℕ, ◌+◌, ◌*◌, ◌<◌, ◌^◌, arith, List, [], ◌∷◌, ◌++◌, length, Ura, full_share, SProp, ent, sep, never, id⊢, Lft, GName, Share, Fml, ftrue, fsep, fat, froom, flft, fobs, fbor, Fn, named, w64, inst_fn, Val, vptr, vint, Env, Calls, Loops, WpFn, Tables, Logic, sem, cells, fact, tables, tables_of, WpFn-mono, Item, ⋆, ‵, raw, ◌⊛◌, some, later, await, pick, at_ret, ◌$◌, ◌∵◌, !, qed, by, move, keep, use1, split, join, group, rewrite, fsplit, fsplit3, fjoin, fjoin3, fpack, feq_l, flt_l, flt_i, suffices, frame, done, whole, sub, agg, stop, fld, of_opd, and_then, no_more, first, blocks, exec, returns, enter, alloc_all, pass_all, free_all, look_at, get, get_in, take_at, give_at, sets, sets_last, env, no, owns, mem, cell_at, part_of, layout, Ptr, block_ptr, in_a_block, usize, plain, mut_ref_to, nothing, opens, spared, Clauses, Ended, closing, on_entry, Meets, triple_of, entered, run_framed, says, needs, Stays, stay_dropped, walk_of, ends_at, Goes-dropped, walk_Meets, El, R, args, el_x, times_below, after, word, word-Good, Its, Sta, sz, Mark, start_told, Row}
use lib.Seq.{take_at as front_of}
use lib.ListN.{drop as without}
use types.SemTy.{Body as Borrowed}
use denote.Array.{Array}
use denote.Builtin.{RefMutOf, SliceRefMutOf}
use denote.Follow.{follows}
use denote.FollowSlice.{Elements, lends_Elements}
use denote.Ref.{MutBor, MutRef}
use denote.Slice.{MutSlice, slice_val}
use denote.Triple.Walked.{Goes-spent_ref}
use Rattle.std.specs.List.{refill}
use Rattle.pl_arena.specs.Ownership.{places, items_own}
use Rattle.pl_arena.specs.Writes.{with_items}
use Rattle.pl_arena.specs.contracts.memory.Items.as_mut_slice.Key.{name as #self}
use Rattle.pl_arena.proofs.memory.Items.as_mut_slice.Statement as stated
use Rattle.pl_arena.proofs.memory.Items.as_mut_slice.Code as code

module _ (E : El) where
  abbrev function : Fn
  function = inst_fn (args E) code.function

  abbrev ended : Ended
  ended = record {
    signature = record {
      lifetimes = 1;
      outlives = [];
      params = RefMutOf (0 ∷ []) tt (plain (λ _. Its E)) (λ _. tt) ∷ plain (λ _. Sta E) ∷ plain (λ _. usize) ∷ [];
      result = SliceRefMutOf (0 ∷ []) tt (plain (λ _. R E)) (λ _. tt);
    };
    kept = (no, (no, (no, tt)));
  }

  abbrev stayed : Stays ended.signature.params ended.kept
  stayed = (stay_dropped (mut_ref_to (0 ∷ []) tt (plain (λ _. Its E))) no, (stay_dropped (plain (λ _. Sta E)) no, (stay_dropped (plain (λ _. usize)) no, tt)))

  abbrev Asks : (Its E).Denot → (Sta E).Denot → ℕ → Type 0
  Asks d start len = (start.first ≡ d.at) × (len ≡ length d.items)

  -- the owner, once these were written
  abbrev written : (Its E).Denot → ℕ → List (el_x E) → (Its E).Denot
  written d len ws = with_items d (refill len d.items ws)

  abbrev spec : {M : Type 1} {𝓤 : Ura M} (𝓛 : Logic 𝓤) → Clauses 𝓤 ended
  spec {𝓤 = 𝓤} 𝓛 κs a = record {
    ghost = Unit {0};
    requires = λ _. fact 𝓤 (Asks a.0.now a.1.0 a.1.1.0);
    ensures = λ _ r w. sep 𝓤 (sem 𝓛 (follows (Its E) (Array (R E) 0) a.0.ghost_name r.ghost_name (written a.0.now a.1.1.0))) (fact 𝓤 (r.now ≡ a.0.now.items));
  }

module _ (E : El) {M : Type 1} {𝓤 : Ura M} (𝓛 : Logic 𝓤) (C : Calls 𝓤 𝓛.H) (Λ : Loops 𝓤 𝓛.H) (κ : Lft) (q : Share) (rb ro : ℕ) (γ : GName)
    (d : (Its E).Denot) (start : (Sta E).Denot) (len : ℕ) (us0 us1 us2 : List Val) where
  open 𝓛 use {H, A}

  abbrev self : MutBor (Its E).Denot
  self = record { ref_ptr = (rb, ro); ghost_name = γ; now = d }

  abbrev bound : (walk_of 𝓛 (ended E) (stayed E) (spec E 𝓛)).Ghost
  bound = (((κ, tt), (q, tt), tt, (self, (start, (len, tt))), (us0, (us1, (us2, tt)))), tt)

  abbrev Post : Val → SProp 𝓤
  Post = (walk_of 𝓛 (ended E) (stayed E) (spec E 𝓛)).post bound

  abbrev xs : List (el_x E)
  xs = d.items

  abbrev new : List (el_x E) → (Its E).Denot
  new = written E d len

  module _ (vs : List Val) (b o : ℕ) where
    -- what the borrow keeps beside the items: the room, the mark, and its cell
    abbrev Rest : Fml
    Rest = fsep (froom (places (R E) d.room) b (length xs * sz E + o)) (fsep ((Mark E).own_val (tt, tt) vs) (cell_at full_share (Its E).mir vs rb ro))

    back : d.at ≡ block_ptr b o → len ≡ length xs → (length xs + d.room) * sz E < 2 ^ 63 → (ws : List (el_x E)) → length ws ≡ length xs
        → ent 𝓤 (sep 𝓤 (sem 𝓛 (cells (mem (R E)) ws b o)) (sem 𝓛 Rest)) (sem 𝓛 ((mem (Its E)).own_at (new ws) rb ro))
    unfolding part_of
    back e long small ws same =
        let all : refill len xs ws ≡ ws = front_of ws (without (length ws) xs) len (same ∙ sym long) in
        let as_many : length xs ≡ length (new ws).items = sym same ∙ ap length (sym all) in
        qed 𝓛 (‵ (cells (mem (R E)) ws b o) ∷ ‵ Rest ∷ []) ∵
        rewrite ! 0 (λ (l : List (el_x E)). ‵ (Row E 𝓛 b o l)) (sym all) refl $ move ! (1 ∷ []) $ fsplit3 ! $
        rewrite ! 0 (λ (k : ℕ). ‵ (froom (places (R E) d.room) b (k * sz E + o))) as_many refl $ move ! (3 ∷ 0 ∷ []) $ fjoin ! $
        flt_i ! ((length (new ws).items + d.room) * sz E) (2 ^ 63) (subst (λ (k : ℕ). (k + d.room) * sz E < 2 ^ 63) as_many small) $ fjoin ! $
        rewrite ! 0 (λ (p : Ptr). ‵ (items_own (R E) p (new ws).items d.room)) (sym e) refl $ move ! (1 ∷ 0 ∷ []) $ fjoin ! $ move ! (1 ∷ 0 ∷ []) $ fjoin ! $
        fpack ! (List Val) (λ us. fsep (cell_at full_share (Its E).mir us rb ro) ((Its E).own_val (new ws) us)) vs $ done !

  exits : (v : Val) (r : MutBor (List (el_x E))) → r.now ≡ xs
      → ent 𝓤 (sep 𝓤 (sem 𝓛 ((MutSlice (named 0) κ (R E)).own_val r (v ∷ []))) (sep 𝓤 (A.lft κ q) (sem 𝓛 (follows (Its E) (Array (R E) 0) γ r.ghost_name new)))) (Post v)
  exits v r all =
      qed 𝓛 (‵ ((MutSlice (named 0) κ (R E)).own_val r (v ∷ [])) ∷ ‵ (flft κ q) ∷ ‵ (follows (Its E) (Array (R E) 0) γ r.ghost_name new) ∷ []) ∵
      suffices ! _ (ends_at 𝓛 (ended E) (stayed E) (spec E 𝓛) bound v r (tt, (tt, (tt, tt))) (tt, (tt, (tt, tt)))) $
      nothing ! $ nothing ! $ fjoin ! $ nothing ! $ fjoin ! $ nothing ! $ fjoin ! $ join ! $ nothing ! $ move ! (2 ∷ 0 ∷ []) $ join ! $ join ! $ frame ! $ says ! all $ done !

  abbrev Had : List (Item 𝓤)
  Had = ‵ (fobs γ ((Its E).coded.code d)) ∷ ‵ (fbor κ (Borrowed (mem (Its E)) rb ro γ)) ∷ ‵ (flft κ q) ∷ []

  walk : Asks E d start len → len < 2 ^ 64 → ent 𝓤 (⋆ 𝓛 Had) (WpFn 𝓤 H C Λ (function E) (vptr rb ro ∷ word start.first ∷ vint w64 len ∷ []) Post)
  walk asked fits =
      let s = sz E in
      let as_now = (Its E).coded.code d in
      qed 𝓛 Had ∵ enter ! C Λ (function E) (vptr rb ro ∷ word start.first ∷ vint w64 len ∷ []) _ $
      alloc_all ! (λ l. pass_all ! refl ((tt, tt), (word-Good [] start.first, ((tt, record { fits = fits }), tt))) $
      let En : Env 𝓤 H = env (function E).locals l in
      opens ! tt (Its E) {h = d} rb ro (λ vs. move ! (1 ∷ []) $ fsplit ! $ move ! (1 ∷ []) $
      in_a_block ! d.at (λ p. items_own (R E) p xs d.room) (id⊢ 𝓤 (never 𝓤)) (λ b o e. fsplit ! $ flt_l ! (λ small. fsplit ! $
      -- [the row; the room; the mark; its cell; the open borrow; obs; auth; the locals]
      take_at ! 2 $ rewrite ! 0 (λ (p : Ptr). ‵ (fat full_share (layout (Sta E)) (l 2) 0 (word p))) (asked.0 ∙ e) refl $ give_at ! 2 $ first ! $ blocks ! $
      let way = back vs b o e asked.1 small in
      let roomy : length xs < 2 ^ 64 = omega (arith, asked.1, fits) in
      let fitting = times_below (length xs) (length xs + d.room) s (2 ^ 63) (omega arith) small in
      sets_last ! (agg ! (and_then ! (get_in ! (fld ! refl (stop !)) (sub ! 0 refl (whole !))) (and_then ! (get ! refl) (no_more !)))) refl (tt, (tt, (record { fits = fits }, tt))) $
      exec ! C Λ En (after 1 (function E).body) (at_ret En Post) $ sets ! (of_opd ! (get ! refl)) refl (tt, (tt, (record { fits = fits }, tt))) $
      move ! (1 ∷ 2 ∷ 3 ∷ []) $ fjoin3 ! $ move ! (2 ∷ 3 ∷ 4 ∷ 1 ∷ 0 ∷ []) $ group ! 5 $
      use1 𝓛 (later (some (λ (δ : GName). raw (Elements 𝓛 (Its E) (R E) new (named 0) κ q rb ro b o γ xs (roomy, fitting) (sem 𝓛 (Rest vs b o)) way δ))))
      (lends_Elements 𝓛 (Its E) (R E) new (named 0) κ q rb ro b o γ xs (roomy, fitting) (sem 𝓛 (Rest vs b o)) way as_now as_now) $ await ! tt $ pick ! (λ δ.
      let r : MutBor (List (el_x E)) = record { ref_ptr = (b, o); ghost_name = δ; now = xs } in
      returns ! (look_at ! 0 refl) $ free_all ! refl $ keep ! (0 ∷ []) $
      by ! (subst (λ (k : ℕ). ent 𝓤 (Elements 𝓛 (Its E) (R E) new (named 0) κ q rb ro b o γ xs (roomy, fitting) (sem 𝓛 (Rest vs b o)) way δ) (Post (slice_val (b, o) k))) (sym asked.1)
      (exits (slice_val (b, o) (length xs)) r refl)))))))

  entry : Asks E d start len → ent 𝓤 (on_entry 𝓛 (ended E).signature (κ, tt) (q, tt) (self, (start, (len, tt))) (us0, (us1, (us2, tt)))) (WpFn 𝓤 H C Λ (function E) (us0 ++ (us1 ++ (us2 ++ []))) Post)
  entry asked =
      qed 𝓛 ((‵ (flft κ q) ⊛ ‵ ftrue) ∷ ‵ (owns (MutRef (named 0) κ (Its E) ∷ Sta E ∷ usize ∷ []) (self, (start, (len, tt))) (us0, (us1, (us2, tt)))) ∷ []) ∵
      split ! $ move ! (2 ∷ []) $ fsplit ! $ fsplit3 ! $ feq_l ! (λ e0.
      move ! (2 ∷ []) $ fsplit ! $ start_told ! start.first us1 (λ e1.
      fsplit ! $ fsplit ! $ feq_l ! (λ e2. flt_l ! (λ fits. keep ! (1 ∷ 2 ∷ 3 ∷ []) $
      by ! (subst (λ (ws : List Val × List Val × List Val). ent 𝓤 (⋆ 𝓛 Had) (WpFn 𝓤 H C Λ (function E) (ws.0 ++ (ws.1 ++ (ws.2 ++ []))) Post)) (λ j. (sym e0 j, sym e1 j, sym e2 j)) (walk asked fits))))))

meets : (E : El) {M : Type 1} {𝓤 : Ura M} (𝓛 : Logic 𝓤) (𝓣 : Tables 𝓤 𝓛.H) → Meets 𝓛 (ended E).signature (WpFn 𝓤 𝓛.H 𝓣.C 𝓣.Λ (function E)) (closing 𝓛 (ended E) (spec E 𝓛))
meets E {𝓤 = 𝓤} 𝓛 𝓣 =
    walk_Meets 𝓛 (ended E) (stayed E)
    (Goes-spent_ref 𝓛 1 (0 ∷ []) tt (plain (λ _. Its E)), (Goes-dropped 𝓛 1 (plain (λ _. Sta E)) no (λ κs x f. refl), (Goes-dropped 𝓛 1 (plain (λ _. usize)) no (λ κs x f. refl), tt)))
    (spec E 𝓛) (WpFn 𝓤 𝓛.H 𝓣.C 𝓣.Λ (function E)) (WpFn-mono 𝓤 𝓛.H 𝓛.laws 𝓣 (function E))
    (λ z. let a = z.0.3 in let vss = z.0.4 in needs 𝓤 (Asks E a.0.now a.1.0 a.1.1.0) _
    (entry E 𝓛 𝓣.C 𝓣.Λ z.0.0.0 z.0.1.0 a.0.ref_ptr.0 a.0.ref_ptr.1 a.0.ghost_name a.0.now a.1.0 a.1.1.0 vss.0 vss.1.0 vss.1.1.0))

pub as_mut_slice_spec : {M : Type 1} → stated.statement M
unfolding tables_of
as_mut_slice_spec 𝓤 𝓛 𝓜 𝓡 wired X LX y =
    let E : El = record { row = X; laws = LX } in
    let 𝓣 : Tables 𝓤 𝓛.H = tables_of 𝓤 𝓛.H 𝓜 (tables 𝓤 𝓛.H 𝓜 𝓡 𝓡.env) in
    let k = #self (args E) in
    let G = closing 𝓛 (ended E) (spec E 𝓛) in
    spared 𝓛 (ended E).signature (𝓡.run (𝓡.env k)) (run_framed 𝓤 𝓛.H 𝓜 𝓡 (𝓡.env k)) 1 (X.lives, tt) G
    (entered 𝓤 𝓛.H (triple_of 𝓛 (ended E).signature G) 𝓣.C 𝓣.Λ k (function E) (code.unfolded 𝓤 𝓛.H 𝓜 𝓡 wired (X, tt)) (meets E 𝓛 𝓣)) ((y.0.0, y.0.1, tt, y.0.3, y.0.4), y.1)
