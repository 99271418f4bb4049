-- `as_slice` shows the items that a `&` to their owner shows. Assumes `Logic`.
use Rattle.pl_arena.proofs.Steps.{◌≡◌, refl, sym, ap, subst, ◌∙◌, ℕ, ◌+◌, ◌*◌, ◌<◌, ◌^◌, arith, List, [], ◌∷◌, ◌++◌, length, Ura, full_share, SProp, ent, never, id⊢, Lft, Share, ftrue, fat, flft, Fn, named, w64, inst_fn, Val, vptr, vint, Env, Calls, Loops, WpFn, Tables, Logic, fact, tables, tables_of, WpFn-mono, Item, ⋆, ‵, ◌⊛◌, at_ret, ◌$◌, ◌∵◌, !, qed, by, move, keep, drop, split, join, rewrite, fsplit, fjoin, feq_i, feq_l, flt_l, flt_i, suffices, frame, done, whole, sub, agg, stop, fld, of_opd, and_then, no_more, first, blocks, exec, returns, enter, alloc_all, pass_all, free_all, look_at, get, get_in, take_at, give_at, sets, sets_last, env, yes, no, owns, hidden_shr, layout, Ptr, in_a_block, usize, plain, nothing, spared, Clauses, Ended, closing, on_entry, Meets, triple_of, entered, run_framed, says, needs, Stays, stay_dropped, walk_of, ends_at, Goes-dropped, walk_Meets, El, R, args, times_below, after, word, word-Good, Its, Sta, sz, start_told}
use denote.Ref.{Bor, ShrRef}
use denote.Builtin.{RefOf, SliceRefOf}
use denote.Opens.{hide, unhide}
use denote.Slice.{ShrSlice, slice_val}
use Rattle.pl_arena.specs.Ownership.{items_lent}
use Rattle.pl_arena.specs.contracts.memory.Items.as_slice.Key.{name as #self}
use Rattle.pl_arena.proofs.memory.Items.as_slice.Statement as stated
use Rattle.pl_arena.proofs.memory.Items.as_slice.Code as code

module _ (E : El) where
  abbrev function : Fn
  function = inst_fn (args E) code.function

  abbrev ended : Ended
  ended = record {
    signature = record {
      lifetimes = 1;
      outlives = [];
      params = RefOf (0 ∷ []) tt (plain (λ _. Its E)) (λ _. tt) ∷ plain (λ _. Sta E) ∷ plain (λ _. usize) ∷ [];
      result = SliceRefOf (0 ∷ []) tt (plain (λ _. R E)) (λ _. tt);
    };
    kept = (yes, (no, (no, tt)));
  }

  abbrev stayed : Stays ended.signature.params ended.kept
  stayed = (stay_dropped (RefOf (0 ∷ []) tt (plain (λ _. Its E)) (λ _. tt)) yes, (stay_dropped (plain (λ _. Sta E)) no, (stay_dropped (plain (λ _. usize)) no, tt)))

  abbrev Asks : (Its E).Denot → (Sta E).Denot → ℕ → Type 0
  Asks d start len = (start.first ≡ d.at) × (len ≡ length d.items)

  abbrev spec : {M : Type 1} {𝓤 : Ura M} (𝓛 : Logic 𝓤) → Clauses 𝓤 ended
  spec {𝓤 = 𝓤} 𝓛 κs a = record {
    ghost = Unit {0};
    requires = λ _. fact 𝓤 (Asks a.0.now a.1.0 a.1.1.0);
    ensures = λ _ r w. fact 𝓤 (r.now ≡ a.0.now.items);
  }

module _ (E : El) {M : Type 1} {𝓤 : Ura M} (𝓛 : Logic 𝓤) (C : Calls 𝓤 𝓛.H) (Λ : Loops 𝓤 𝓛.H) (κ : Lft) (q : Share) (rb ro : ℕ)
    (d : (Its E).Denot) (start : (Sta E).Denot) (len : ℕ) (us0 us1 us2 : List Val) where
  open 𝓛 use {H, A}

  abbrev self : Bor (Its E).Denot
  self = record { ref_ptr = (rb, ro); now = d }

  abbrev bound : (walk_of 𝓛 (ended E) (stayed E) (spec E 𝓛)).Ghost
  bound = (((κ, tt), (q, tt), tt, (self, (start, (len, tt))), (us0, (us1, (us2, tt)))), tt)

  abbrev Post : Val → SProp 𝓤
  Post = (walk_of 𝓛 (ended E) (stayed E) (spec E 𝓛)).post bound

  exits : (r : (ShrSlice (named 0) κ (R E)).Denot) (v : Val) → r.now ≡ d.items → ent 𝓤 (⋆ 𝓛 (‵ (flft κ q) ∷ ‵ ((ShrSlice (named 0) κ (R E)).own_val r (v ∷ [])) ∷ [])) (Post v)
  exits r v all =
      qed 𝓛 (‵ (flft κ q) ∷ ‵ ((ShrSlice (named 0) κ (R E)).own_val r (v ∷ [])) ∷ []) ∵
      suffices ! _ (ends_at 𝓛 (ended E) (stayed E) (spec E 𝓛) bound v r (tt, (tt, (tt, tt))) (tt, (tt, (tt, tt)))) $ says ! all $
      nothing ! $ move ! (1 ∷ 0 ∷ []) $ join ! $ frame ! $ nothing ! $ nothing ! $ fjoin ! $ nothing ! $ fjoin ! $ nothing ! $ fjoin ! $ done !

  abbrev Had : List (Item 𝓤)
  Had = ‵ (hidden_shr (Its E) κ d rb ro) ∷ ‵ (flft κ q) ∷ []

  walk : Asks E d start len → len < 2 ^ 64 → ent 𝓤 (⋆ 𝓛 Had) (WpFn 𝓤 H C Λ (function E) (vptr rb ro ∷ word start.first ∷ vint w64 len ∷ []) Post)
  walk asked fits =
      let s = sz E in
      let xs = d.items in
      let many = length xs + d.room in
      qed 𝓛 Had ∵ enter ! C Λ (function E) (vptr rb ro ∷ word start.first ∷ vint w64 len ∷ []) _ $
      alloc_all ! (λ l. pass_all ! refl ((tt, tt), (word-Good [] start.first, ((tt, record { fits = fits }), tt))) $
      let En : Env 𝓤 H = env (function E).locals l in
      unhide ! $ fsplit ! $ drop ! $ in_a_block ! d.at (λ p. items_lent (R E) p xs d.room κ) (id⊢ 𝓤 (never 𝓤)) (λ b o e. fsplit ! $ flt_l ! (λ small. hide ! $
      -- [the items; the token; the locals]
      take_at ! 2 $ rewrite ! 0 (λ (p : Ptr). ‵ (fat full_share (layout (Sta E)) (l 2) 0 (word p))) (asked.0 ∙ e) refl $ give_at ! 2 $ first ! $ blocks ! $
      sets_last ! (agg ! (and_then ! (get_in ! (fld ! refl (stop !)) (sub ! 0 refl (whole !))) (and_then ! (get ! refl) (no_more !)))) refl (tt, (tt, (record { fits = fits }, tt))) $
      exec ! C Λ En (after 1 (function E).body) (at_ret En Post) $ sets ! (of_opd ! (get ! refl)) refl (tt, (tt, (record { fits = fits }, tt))) $
      flt_i ! (length xs * s) (2 ^ 63) (times_below (length xs) many s (2 ^ 63) (omega arith) small) $ flt_i ! (length xs) (2 ^ 64) (omega (arith, asked.1, fits)) $ fjoin ! $
      feq_i ! (List Val) (slice_val (b, o) len ∷ []) (slice_val (b, o) (length xs) ∷ []) (ap (λ (k : ℕ). slice_val (b, o) k ∷ []) asked.1) $ fjoin ! $ fjoin ! $
      returns ! (look_at ! 0 refl) $ free_all ! refl $ keep ! (1 ∷ 0 ∷ []) $ by ! (exits (record { ref_ptr = (b, o); now = xs }) (slice_val (b, o) len) refl))))

  entry : Asks E d start len → ent 𝓤 (on_entry 𝓛 (ended E).signature (κ, tt) (q, tt) (self, (start, (len, tt))) (us0, (us1, (us2, tt)))) (WpFn 𝓤 H C Λ (function E) (us0 ++ (us1 ++ (us2 ++ []))) Post)
  entry asked =
      qed 𝓛 ((‵ (flft κ q) ⊛ ‵ ftrue) ∷ ‵ (owns (ShrRef (named 0) κ (Its E) ∷ Sta E ∷ usize ∷ []) (self, (start, (len, tt))) (us0, (us1, (us2, tt)))) ∷ []) ∵
      split ! $ move ! (2 ∷ []) $ fsplit ! $ fsplit ! $ feq_l ! (λ e0.
      move ! (1 ∷ []) $ fsplit ! $ start_told ! start.first us1 (λ e1.
      fsplit ! $ fsplit ! $ feq_l ! (λ e2. flt_l ! (λ fits. keep ! (1 ∷ 2 ∷ []) $
      by ! (subst (λ (ws : List Val × List Val × List Val). ent 𝓤 (⋆ 𝓛 Had) (WpFn 𝓤 H C Λ (function E) (ws.0 ++ (ws.1 ++ (ws.2 ++ []))) Post)) (λ j. (sym e0 j, sym e1 j, sym e2 j)) (walk asked fits))))))

meets : (E : El) {M : Type 1} {𝓤 : Ura M} (𝓛 : Logic 𝓤) (𝓣 : Tables 𝓤 𝓛.H) → Meets 𝓛 (ended E).signature (WpFn 𝓤 𝓛.H 𝓣.C 𝓣.Λ (function E)) (closing 𝓛 (ended E) (spec E 𝓛))
meets E {𝓤 = 𝓤} 𝓛 𝓣 =
    walk_Meets 𝓛 (ended E) (stayed E)
    (Goes-dropped 𝓛 1 (RefOf (0 ∷ []) tt (plain (λ _. Its E)) (λ _. tt)) yes (λ κs x f. refl), (Goes-dropped 𝓛 1 (plain (λ _. Sta E)) no (λ κs x f. refl), (Goes-dropped 𝓛 1 (plain (λ _. usize)) no (λ κs x f. refl), tt)))
    (spec E 𝓛) (WpFn 𝓤 𝓛.H 𝓣.C 𝓣.Λ (function E)) (WpFn-mono 𝓤 𝓛.H 𝓛.laws 𝓣 (function E))
    (λ z. let a = z.0.3 in let vss = z.0.4 in needs 𝓤 (Asks E a.0.now a.1.0 a.1.1.0) _
    (entry E 𝓛 𝓣.C 𝓣.Λ z.0.0.0 z.0.1.0 a.0.ref_ptr.0 a.0.ref_ptr.1 a.0.now a.1.0 a.1.1.0 vss.0 vss.1.0 vss.1.1.0))

pub as_slice_spec : {M : Type 1} → stated.statement M
unfolding tables_of
as_slice_spec 𝓤 𝓛 𝓜 𝓡 wired X LX y =
    let E : El = record { row = X; laws = LX } in
    let 𝓣 : Tables 𝓤 𝓛.H = tables_of 𝓤 𝓛.H 𝓜 (tables 𝓤 𝓛.H 𝓜 𝓡 𝓡.env) in
    let k = #self (args E) in
    let G = closing 𝓛 (ended E) (spec E 𝓛) in
    spared 𝓛 (ended E).signature (𝓡.run (𝓡.env k)) (run_framed 𝓤 𝓛.H 𝓜 𝓡 (𝓡.env k)) 1 (X.lives, tt) G
    (entered 𝓤 𝓛.H (triple_of 𝓛 (ended E).signature G) 𝓣.C 𝓣.Λ k (function E) (code.unfolded 𝓤 𝓛.H 𝓜 𝓡 wired (X, tt)) (meets E 𝓛 𝓣)) ((y.0.0, y.0.1, tt, y.0.3, y.0.4), y.1)
