-- `push` writes into the first place of the room. Assumes `Logic`.
use Rattle.pl_arena.proofs.Steps.{◌≡◌, refl, sym, ap, subst, ◌∙◌, ℕ, suc, ◌+◌, ◌-◌, ◌*◌, ◌<◌, ◌^◌, arith, List, [], ◌∷◌, ◌++◌, length, length-append, Ura, full_share, SProp, ent, never, id⊢, Lft, GName, Share, ftrue, fat, froom, flft, fobs, fbor, Fn, named, w64, ty_array, inst_fn, Val, vptr, vint, vunit, Env, Calls, Loops, WpFn, Tables, Logic, fact, tables, tables_of, WpFn-mono, Item, ⋆, ‵, ◌⊛◌, at_ret, ◌$◌, ◌∵◌, !, qed, by, move, keep, use1, use2, split, join, rewrite, fsplit, fsplit3, fjoin, fjoin3, feq_i, feq_l, flt_l, flt_i, suffices, frame, done, whole, sub, stop, fld, of_opd, unit_lit, bin, size_lit, init, assigns_last, first, blocks, exec, returns, enter, alloc_all, pass_all, free_all, look_at, get, get_in, through, take_at, give_at, sets, env, yes, no, owns, mem, part_at, layout, Ptr, in_a_block, usize, unit, plain, nothing, opens, closes, spared, Clauses, Ended, closing, on_entry, Meets, triple_of, entered, run_framed, says, needs, Stays, stay_dropped, stay_ref, walk_of, ends_at, Goes-dropped, Goes-ref, walk_Meets, El, R, args, elτ, after, Good, word, word-Good, as_raw, as_written, Its, Sta, sz, start_told, item_told, past, item_fits, part_fits, Row, item_in, longer, first_place}
use types.SemTy.{Body as Borrowed}
use denote.Ref.{MutBor, MutRef}
use denote.Builtin.{RefMutOf}
use Rattle.pl_arena.specs.Block.{HasMore}
use Rattle.pl_arena.specs.Ownership.{places, items_own}
use Rattle.pl_arena.specs.contracts.memory.Items.push.Key.{name as #self}
use Rattle.pl_arena.proofs.memory.Items.push.Statement as stated
use Rattle.pl_arena.proofs.memory.Items.push.Code as code

module _ (E : El) where
  abbrev function : Fn
  function = inst_fn (args E) code.function

  abbrev ended : Ended
  ended = record {
    signature = record {
      lifetimes = 1;
      outlives = [];
      params = RefMutOf (0 ∷ []) tt (plain (λ _. Its E)) (λ _. tt) ∷ plain (λ _. Sta E) ∷ plain (λ _. usize) ∷ plain (λ _. R E) ∷ [];
      result = plain (λ _. unit);
    };
    kept = (yes, (no, (no, (no, tt))));
  }

  abbrev stayed : Stays ended.signature.params ended.kept
  stayed = (stay_ref (0 ∷ []) tt (plain (λ _. Its E)), (stay_dropped (plain (λ _. Sta E)) no, (stay_dropped (plain (λ _. usize)) no, (stay_dropped (plain (λ _. R E)) no, tt))))

  abbrev Asks : (Its E).Denot → (Sta E).Denot → ℕ → Type 0
  Asks d start len = (start.first ≡ d.at) × (len ≡ length d.items) × (0 < d.room)

  abbrev Says : (Its E).Denot → (R E).Denot → (Its E).Denot → Type 0
  Says = HasMore

  abbrev spec : {M : Type 1} {𝓤 : Ura M} (𝓛 : Logic 𝓤) → Clauses 𝓤 ended
  spec {𝓤 = 𝓤} 𝓛 κs a = record {
    ghost = Unit {0};
    requires = λ _. fact 𝓤 (Asks a.0.now a.1.0 a.1.1.0);
    ensures = λ _ r w. fact 𝓤 (Says a.0.now a.1.1.1.0 w.0.now);
  }

module _ (E : El) {M : Type 1} {𝓤 : Ura M} (𝓛 : Logic 𝓤) (C : Calls 𝓤 𝓛.H) (Λ : Loops 𝓤 𝓛.H) (κ : Lft) (q : Share) (rb ro : ℕ) (γ : GName)
    (d : (Its E).Denot) (start : (Sta E).Denot) (len : ℕ) (item : (R E).Denot) (us0 us1 us2 us3 : List Val) where
  open 𝓛 use {H, A}

  abbrev self : MutBor (Its E).Denot
  self = record { ref_ptr = (rb, ro); ghost_name = γ; now = d }

  abbrev bound : (walk_of 𝓛 (ended E) (stayed E) (spec E 𝓛)).Ghost
  bound = (((κ, tt), (q, tt), tt, (self, (start, (len, (item, tt)))), (us0, (us1, (us2, (us3, tt))))), tt)

  abbrev Post : Val → SProp 𝓤
  Post = (walk_of 𝓛 (ended E) (stayed E) (spec E 𝓛)).post bound

  abbrev Left : (Its E).Denot → Val → List (Item 𝓤)
  Left new v = ‵ (fobs γ ((Its E).coded.code new)) ∷ ‵ (fbor κ (Borrowed (mem (Its E)) rb ro γ)) ∷ ‵ (flft κ q) ∷ ‵ (unit.own_val tt (v ∷ [])) ∷ []

  exits : us0 ≡ vptr rb ro ∷ [] → (v : Val) (new : (Its E).Denot) → Says E d item new → ent 𝓤 (⋆ 𝓛 (Left new v)) (Post v)
  exits passed v new now =
      qed 𝓛 (Left new v) ∵
      suffices ! _ (ends_at 𝓛 (ended E) (stayed E) (spec E 𝓛) bound v tt (new, (tt, (tt, (tt, tt)))) (tt, (tt, (tt, (tt, tt))))) $ says ! now $
      nothing ! $ move ! (3 ∷ 0 ∷ []) $ join ! $ frame ! $ feq_i ! (List Val) us0 (vptr rb ro ∷ []) passed $ fjoin3 ! $
      nothing ! $ nothing ! $ fjoin ! $ nothing ! $ fjoin ! $ nothing ! $ fjoin ! $ move ! (1 ∷ 0 ∷ []) $ fjoin ! $ done !

  abbrev Had : Val → List (Item 𝓤)
  Had v = ‵ (fobs γ ((Its E).coded.code d)) ∷ ‵ (fbor κ (Borrowed (mem (Its E)) rb ro γ)) ∷ ‵ (flft κ q) ∷ ‵ ((R E).own_val item (v ∷ [])) ∷ []

  walk : us0 ≡ vptr rb ro ∷ [] → Asks E d start len → len < 2 ^ 64 → (v : Val) → Good (layout (R E)) v
      → ent 𝓤 (⋆ 𝓛 (Had v)) (WpFn 𝓤 H C Λ (function E) (vptr rb ro ∷ word start.first ∷ vint w64 len ∷ v ∷ []) Post)
  walk passed asked fits v good =
      let s = sz E in
      let n = length d.items in
      let m = d.room - 1 in
      let room : d.room ≡ suc m = omega (arith, asked.2) in
      let new : (Its E).Denot = record { mark = d.mark; at = d.at; items = d.items ++ item ∷ []; room = m } in
      let longer_by : length new.items ≡ n + 1 = length-append d.items (item ∷ []) in
      let as_long : n + d.room ≡ length new.items + m = omega (arith, longer_by, room) in
      qed 𝓛 (Had v) ∵ enter ! C Λ (function E) (vptr rb ro ∷ word start.first ∷ vint w64 len ∷ v ∷ []) _ $
      alloc_all ! (λ l. pass_all ! refl ((tt, tt), (word-Good [] start.first, ((tt, record { fits = fits }), (good, tt)))) $
      let En : Env 𝓤 H = env (function E).locals l in
      opens ! tt (Its E) {h = d} rb ro (λ vs. move ! (1 ∷ []) $ fsplit ! $ move ! (1 ∷ []) $
      in_a_block ! d.at (λ p. items_own (R E) p d.items d.room) (id⊢ 𝓤 (never 𝓤)) (λ b o e. fsplit ! $ flt_l ! (λ small. fsplit ! $
      let at = len * s + o in
      let tiny : s < 2 ^ 64 = item_fits (n + d.room) s (omega (arith, asked.2)) small in
      let far : len * s < 2 ^ 64 = part_fits len (n + d.room) s (omega (arith, asked.1)) small in
      -- [the row; the room; the mark; its cell; the open borrow; obs; auth; the item; the locals]
      take_at ! 2 $ rewrite ! 0 (λ (p : Ptr). ‵ (fat full_share (layout (Sta E)) (l 2) 0 (word p))) (asked.0 ∙ e) refl $ give_at ! 2 $ first ! $ blocks ! $
      sets ! (bin ! (get ! refl) (size_lit ! (record { fits = tiny })) (record { fits = far })) refl (tt, record { fits = far }) $
      sets ! (bin ! (get_in ! (fld ! refl (stop !)) (sub ! 0 refl (whole !))) (get ! refl) tt) refl (tt, tt) $
      move ! (1 ∷ []) $ rewrite ! 0 (λ (k : ℕ). ‵ (froom (places (R E) d.room) b (k * s + o))) (sym asked.1) refl $ as_written ! (ty_array (elτ E) d.room) b at $
      use1 𝓛 (‵ (froom (elτ E) b at) ⊛ ‵ (froom (ty_array (elτ E) m) b (at + s))) (first_place E 𝓛 b d.room m at room) $ split ! $
      -- [the place; the room; the row; ..]
      sets ! (of_opd ! (get ! refl)) refl good $ assigns_last ! (of_opd ! (get ! refl)) (through ! refl (stop !)) (init ! 0 refl good) $
      exec ! C Λ En (after 1 (function E).body) (at_ret En Post) $ sets ! (of_opd ! (unit_lit !)) refl (tt, tt) $
      move ! (0 ∷ 8 ∷ []) $ use2 𝓛 (‵ (part_at (R E) full_share item b at)) (item_in E 𝓛 b item at v) $
      move ! (2 ∷ 0 ∷ []) $ use2 𝓛 (‵ (Row E 𝓛 b o new.items)) (longer E 𝓛 b d.items item o at (ap (λ (k : ℕ). k * s + o) asked.1)) $
      move ! (1 ∷ []) $ as_raw ! (ty_array (elτ E) m) b (at + s) $
      rewrite ! 0 (λ (k : ℕ). ‵ (froom (places (R E) m) b k)) (past len n (length new.items) s o asked.1 longer_by) refl $ move ! (1 ∷ 0 ∷ []) $ fjoin ! $
      flt_i ! ((length new.items + m) * s) (2 ^ 63) (subst (λ (k : ℕ). k * s < 2 ^ 63) as_long small) $ fjoin ! $
      rewrite ! 0 (λ (p : Ptr). ‵ (items_own (R E) p new.items m)) (sym e) refl $ move ! (1 ∷ 0 ∷ []) $ fjoin ! $ move ! (1 ∷ 0 ∷ []) $ closes ! tt (Its E) new vs rb ro $
      returns ! (look_at ! 0 refl) $ free_all ! refl $ keep ! (0 ∷ 1 ∷ 2 ∷ []) $ feq_i ! (List Val) (vunit ∷ []) (vunit ∷ []) refl $ move ! (1 ∷ 2 ∷ 3 ∷ 0 ∷ []) $
      by ! (exits passed vunit new (record { at = refl; items = refl; room = omega (arith, room) }))))))

  entry : Asks E d start len → ent 𝓤 (on_entry 𝓛 (ended E).signature (κ, tt) (q, tt) (self, (start, (len, (item, tt)))) (us0, (us1, (us2, (us3, tt))))) (WpFn 𝓤 H C Λ (function E) (us0 ++ (us1 ++ (us2 ++ (us3 ++ [])))) Post)
  entry asked =
      qed 𝓛 ((‵ (flft κ q) ⊛ ‵ ftrue) ∷ ‵ (owns (MutRef (named 0) κ (Its E) ∷ Sta E ∷ usize ∷ R E ∷ []) (self, (start, (len, (item, tt)))) (us0, (us1, (us2, (us3, tt))))) ∷ []) ∵
      split ! $ move ! (2 ∷ []) $ fsplit ! $ fsplit3 ! $ feq_l ! (λ e0.
      move ! (2 ∷ []) $ fsplit ! $ start_told ! start.first us1 (λ e1.
      fsplit ! $ fsplit ! $ feq_l ! (λ e2. flt_l ! (λ fits.
      fsplit ! $ item_told E ! item us3 (λ v e3 good. keep ! (2 ∷ 3 ∷ 4 ∷ 0 ∷ []) $
      by ! (subst (λ (ws : List Val × List Val × List Val × List Val). ent 𝓤 (⋆ 𝓛 (Had v)) (WpFn 𝓤 H C Λ (function E) (ws.0 ++ (ws.1 ++ (ws.2 ++ (ws.3 ++ [])))) Post))
      (λ j. (sym e0 j, sym e1 j, sym e2 j, sym e3 j)) (walk e0 asked fits v good)))))))

meets : (E : El) {M : Type 1} {𝓤 : Ura M} (𝓛 : Logic 𝓤) (𝓣 : Tables 𝓤 𝓛.H) → Meets 𝓛 (ended E).signature (WpFn 𝓤 𝓛.H 𝓣.C 𝓣.Λ (function E)) (closing 𝓛 (ended E) (spec E 𝓛))
meets E {𝓤 = 𝓤} 𝓛 𝓣 =
    walk_Meets 𝓛 (ended E) (stayed E)
    (Goes-ref 𝓛 1 0 tt (plain (λ _. Its E)), (Goes-dropped 𝓛 1 (plain (λ _. Sta E)) no (λ κs x f. refl), (Goes-dropped 𝓛 1 (plain (λ _. usize)) no (λ κs x f. refl), (Goes-dropped 𝓛 1 (plain (λ _. R E)) no (λ κs x f. refl), tt))))
    (spec E 𝓛) (WpFn 𝓤 𝓛.H 𝓣.C 𝓣.Λ (function E)) (WpFn-mono 𝓤 𝓛.H 𝓛.laws 𝓣 (function E))
    (λ z. let a = z.0.3 in let vss = z.0.4 in needs 𝓤 (Asks E a.0.now a.1.0 a.1.1.0) _
    (entry E 𝓛 𝓣.C 𝓣.Λ z.0.0.0 z.0.1.0 a.0.ref_ptr.0 a.0.ref_ptr.1 a.0.ghost_name a.0.now a.1.0 a.1.1.0 a.1.1.1.0 vss.0 vss.1.0 vss.1.1.0 vss.1.1.1.0))

pub push_spec : {M : Type 1} → stated.statement M
unfolding tables_of
push_spec 𝓤 𝓛 𝓜 𝓡 wired X LX y =
    let E : El = record { row = X; laws = LX } in
    let 𝓣 : Tables 𝓤 𝓛.H = tables_of 𝓤 𝓛.H 𝓜 (tables 𝓤 𝓛.H 𝓜 𝓡 𝓡.env) in
    let k = #self (args E) in
    let G = closing 𝓛 (ended E) (spec E 𝓛) in
    spared 𝓛 (ended E).signature (𝓡.run (𝓡.env k)) (run_framed 𝓤 𝓛.H 𝓜 𝓡 (𝓡.env k)) 1 (X.lives, tt) G
    (entered 𝓤 𝓛.H (triple_of 𝓛 (ended E).signature G) 𝓣.C 𝓣.Λ k (function E) (code.unfolded 𝓤 𝓛.H 𝓜 𝓡 wired (X, tt)) (meets E 𝓛 𝓣)) ((y.0.0, y.0.1, tt, y.0.3, y.0.4), y.1)
