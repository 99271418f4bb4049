-- `deallocate` lets the items go, and hands the block back with its deed. Assumes `Logic`.
use Rattle.pl_arena.proofs.Steps.{block_fits, ◌≡◌, refl, sym, ap, subst, ◌∙◌, ℕ, ◌+◌, ◌*◌, ◌<◌, ◌^◌, List, [], ◌∷◌, ◌++◌, length, Ura, SProp, ent, never, id⊢, Lft, Share, ftrue, froom, flft, Fn, named, w64, ty_array, inst_fn, Val, vptr, vint, vunit, Env, Calls, Loops, WpFn, Tables, Logic, fact, tables, tables_of, WpFn-mono, Item, ⋆, ‵, raw, ◌⊛◌, given, later, await, learn, at_ret, ◌$◌, ◌∵◌, !, qed, by, move, keep, use1, use2, split, join, group, rewrite, fsplit, fsplit3, fjoin, feq_i, feq_l, flt_l, suffices, done, whole, sub, stop, fld, unit_lit, of_opd, bin, and_then, no_more, first, blocks, exec, returns, enter, alloc_all, pass_all, free_all, look_at, get, get_in, sets, is, env, yes, no, RattleType, owns, hidden_shr, Ptr, ptr_val, in_a_block, usize, plain, nothing, Clauses, Ended, closing, on_entry, Meets, triple_of, entered, needs, Stays, stay_dropped, walk_of, ends_at, Goes-dropped, walk_Meets, El, R, elτ, after, word, word-Good, as_raw, as_written, Its, Sta, sz, mark, mark_told, start_told, emptied, size_word, Incl-trans}
use lib.Dec.{T}
use mir.Syntax.{ty_unit}
use mir.Val.{has_ty, WT}
use prog.Memory.{Memory, align, capped}
use prog.Capped.{capped_fits}
use prog.Routine.{Routine}
use contract.Monad.{Fun}
use contract.BorrowLft.{◌⊑◌}
use sound.WpLaws.{FmC, fm_of}
use types.Run.{align_word}
use types.ByLocal.{lands_last}
use denote.Builtin.{RefOf}
use denote.Ref.{Bor, ShrRef}
use denote.Triple.Call.{calls_at_last}
use denote.Triple.Statement.{Triple}
use Rattle.core.proofs.alloc.Calls.{Al, second, token, gives_key, Gives, at_gives, Gives-goes, Gives-Gives, Goes-blank}
use Rattle.core.proofs.slots.Leases.{uncapped, block_ty, block_size, block_align, args, P}
use Rattle.pl_arena.specs.Block.{IsMemoryBlock}
use Rattle.pl_arena.specs.Ownership.{items_own, deed_owns}
use Rattle.pl_arena.specs.contracts.memory.Deed as Deed
use Rattle.pl_arena.specs.contracts.memory.Items.deallocate as stands
use Rattle.pl_arena.specs.contracts.memory.Items.deallocate.Key.{name as #self}
use Rattle.pl_arena.proofs.memory.Items.deallocate.Statement as stated
use Rattle.pl_arena.proofs.memory.Items.deallocate.Code as code

module _ (E : El) (Z : Al) where
  abbrev function : Fn
  function = inst_fn (args E Z) code.function

  abbrev ended : Ended
  ended = stands.ended E.row Z.row Z.g Z.d Z.drops

  abbrev clauses : {M : Type 1} {𝓤 : Ura M} (𝓛 : Logic 𝓤) → (Memory → SProp 𝓤) → (Routine → Fun 𝓤) → Clauses 𝓤 ended
  clauses 𝓛 = stands.clauses E.row Z.row Z.g Z.d Z.drops 𝓛

  abbrev Ded : RattleType
  Ded = Deed.the_row (R E) (P E Z) Z.g

  abbrev stayed : Stays ended.signature.params ended.kept
  stayed = (
    stay_dropped (RefOf (0 ∷ []) tt (plain (λ _. P E Z)) (λ _. tt)) yes,
    (stay_dropped (plain (λ _. Sta E)) no, (stay_dropped (plain (λ _. usize)) yes, (stay_dropped (plain (λ _. Its E)) no, (stay_dropped (plain (λ _. Ded)) no, tt)))),
  )

  abbrev Asks : Z.row.Denot → (Sta E).Denot → ℕ → (Its E).Denot → Ded.Denot → Type 0
  Asks a start len items deed = IsMemoryBlock start items deed len a

module _ (E : El) (Z : Al) {M : Type 1} {𝓤 : Ura M} (𝓛 : Logic 𝓤) (at_mem : Memory → SProp 𝓤) (run : Routine → Fun 𝓤) (C : Calls 𝓤 𝓛.H) (Λ : Loops 𝓤 𝓛.H) (fm : FmC 𝓤 𝓛.H 𝓛.laws C)
    (callee : Triple 𝓤 (C (gives_key Z)) (Gives Z 𝓛 at_mem run)) (κ κ₁ κ₂ : Lft) (q q₁ q₂ : Share) (short : κ ⊑ κ₂) (inside : κ₂ ⊑ Z.row.lives)
    (rb ro : ℕ) (a : Z.row.Denot) (start : (Sta E).Denot) (len : ℕ) (items : (Its E).Denot) (deed : (Ded E Z).Denot) (us0 us1 us2 us3 us4 : List Val) where
  open 𝓛 use {H, A}

  abbrev self : Bor Z.row.Denot
  self = record { ref_ptr = (rb, ro); now = a }

  abbrev others : Item 𝓤
  others = ‵ (flft κ₁ q₁) ⊛ ‵ (flft κ₂ q₂) ⊛ ‵ ftrue

  abbrev bound : (walk_of 𝓛 (ended E Z) (stayed E Z) (clauses E Z 𝓛 at_mem run)).Ghost
  bound = (((κ, (κ₁, (κ₂, tt))), (q, (q₁, (q₂, tt))), (short, tt), (self, (start, (len, (items, (deed, tt))))), (us0, (us1, (us2, (us3, (us4, tt)))))), tt)

  abbrev Post : Val → SProp 𝓤
  Post = (walk_of 𝓛 (ended E Z) (stayed E Z) (clauses E Z 𝓛 at_mem run)).post bound

  exits : ent 𝓤 (⋆ 𝓛 (‵ (flft κ q) ∷ others ∷ [])) (Post vunit)
  exits =
      qed 𝓛 (‵ (flft κ q) ∷ others ∷ []) ∵
      suffices ! _ (ends_at 𝓛 (ended E Z) (stayed E Z) (clauses E Z 𝓛 at_mem run) bound vunit tt (tt, (tt, (tt, (tt, (tt, tt))))) (tt, (tt, (tt, (tt, (tt, tt)))))) $
      join ! $ feq_i ! (List Val) (vunit ∷ []) (vunit ∷ []) refl $
      nothing ! $ nothing ! $ fjoin ! $ nothing ! $ fjoin ! $ nothing ! $ fjoin ! $ nothing ! $ fjoin ! $ nothing ! $ fjoin ! $ join ! $
      move ! (1 ∷ 0 ∷ []) $ join ! $ nothing ! $ move ! (1 ∷ 0 ∷ []) $ done !

  abbrev Had : List (Item 𝓤)
  Had = ‵ (items_own (R E) items.at items.items items.room) ∷ ‵ (deed_owns (R E) (token Z deed.alloc) deed.at deed.len) ∷ ‵ (hidden_shr (P E Z) κ a rb ro) ∷ ‵ (flft κ q) ∷ others ∷ []

  walk : Asks E Z a start len items deed → len < 2 ^ 64 → ent 𝓤 (⋆ 𝓛 Had) (WpFn 𝓤 H C Λ (function E Z) (vptr rb ro ∷ word start.first ∷ vint w64 len ∷ mark ∷ mark ∷ []) Post)
  walk asked fits =
      let s = sz E in
      let al : ℕ = capped (align (elτ E)) in
      let τ = block_ty E len in
      let xs = items.items in
      qed 𝓛 Had ∵ enter ! C Λ (function E Z) (vptr rb ro ∷ word start.first ∷ vint w64 len ∷ mark ∷ mark ∷ []) _ $
      alloc_all ! (λ l. pass_all ! refl ((tt, tt), (word-Good [] start.first, ((tt, record { fits = fits }), ((tt, (tt, tt)), ((tt, (tt, tt)), tt))))) $
      let En : Env 𝓤 H = env (function E Z).locals l in
      rewrite ! 0 (λ (p : Ptr). ‵ (items_own (R E) p xs items.room)) asked.at_start refl $
      in_a_block ! start.first (λ p. items_own (R E) p xs items.room) (id⊢ 𝓤 (never 𝓤)) (λ b o e. fsplit ! $ flt_l ! (λ fit. fsplit ! $
      let small : len * s < 2 ^ 63 = subst (λ (k : ℕ). k * s < 2 ^ 63) asked.places fit in
      let bytes : len * s < 2 ^ 64 = block_fits (len * s) small in
      let exact = uncapped len s bytes in
      let y : (Gives Z 𝓛 at_mem run).Ghost = at_gives Z 𝓛 at_mem run κ q (rb, ro) a b o (len * s) al τ in
      -- [the row; the room; the deed; the allocator; ..]
      move ! (1 ∷ []) $ as_written ! (ty_array (elτ E) items.room) b (length xs * s + o) $ move ! (1 ∷ 0 ∷ []) $
      use2 𝓛 (‵ (froom (ty_array (elτ E) len) b o)) (emptied E 𝓛 b xs items.room len o (length xs * s + o) (sym asked.places) refl) $
      rewrite ! 1 (λ (d : Z.row.Denot × Ptr × ℕ). ‵ (deed_owns (R E) (token Z d.0) d.1 d.2)) (λ i. (asked.right.2 i, (asked.right.0 ∙ e) i, asked.right.1 i)) refl $
      as_raw ! (ty_array (elτ E) len) b o $ first ! $ blocks ! $
      sets ! (is ! (of_opd ! (get_in ! (fld ! refl (stop !)) (sub ! 0 refl (whole !)))) (ap ptr_val e)) refl (tt, tt) $
      sets ! (is ! (bin ! (get ! refl) (size_word !) (record { fits = subst (λ (k : ℕ). k < 2 ^ 64) (sym exact) bytes })) (ap (vint w64) exact)) refl (tt, record { fits = bytes }) $
      group ! 4 $ use1 𝓛 (raw ((Gives Z 𝓛 at_mem run).pre y))
      (Gives-goes Z 𝓛 at_mem run κ q (rb, ro) a (Incl-trans short inside) b o (len * s) al τ (block_size E len bytes) (block_align E len) bytes (capped_fits (align (elτ E)))) $
      calls_at_last ! fm (Gives Z 𝓛 at_mem run) callee y (and_then ! (get ! refl) (and_then ! (get ! refl) (and_then ! (get ! refl) (and_then ! (align_word !) (no_more !))))) (λ v.
      use1 𝓛 (later (given (v ≡ vunit) (‵ (flft κ q)))) (Gives-Gives Z 𝓛 at_mem run κ q (rb, ro) a b o (len * s) al τ v) $ await ! tt $ learn ! (λ is_unit.
      lands_last ! refl (subst (λ (u : Val). T (has_ty ty_unit u) × WT u) (sym is_unit) (tt, tt)) $ exec ! C Λ En (after 1 (function E Z).body) (at_ret En Post) $
      sets ! (of_opd ! (unit_lit !)) refl (tt, tt) $ returns ! (look_at ! 0 refl) $ free_all ! refl $ keep ! (0 ∷ 1 ∷ []) $ by ! exits)))))

  entry : Asks E Z a start len items deed
      → ent 𝓤 (on_entry 𝓛 (ended E Z).signature (κ, (κ₁, (κ₂, tt))) (q, (q₁, (q₂, tt))) (self, (start, (len, (items, (deed, tt))))) (us0, (us1, (us2, (us3, (us4, tt))))))
      (WpFn 𝓤 H C Λ (function E Z) (us0 ++ (us1 ++ (us2 ++ (us3 ++ (us4 ++ []))))) Post)
  entry asked =
      qed 𝓛 ((‵ (flft κ q) ⊛ others) ∷ ‵ (owns (ShrRef (named 0) κ (P E Z) ∷ Sta E ∷ usize ∷ Its E ∷ Ded E Z ∷ []) (self, (start, (len, (items, (deed, tt))))) (us0, (us1, (us2, (us3, (us4, tt)))))) ∷ []) ∵
      split ! $ move ! (2 ∷ []) $ fsplit3 ! $ fsplit ! $ feq_l ! (λ e0.
      move ! (1 ∷ []) $ start_told ! start.first us1 (λ e1.
      move ! (1 ∷ []) $ fsplit3 ! $ fsplit ! $ feq_l ! (λ e2. flt_l ! (λ fits.
      fsplit ! $ mark_told ! E us3 (λ e3.
      move ! (1 ∷ []) $ fsplit ! $ fsplit ! $ mark_told ! E us4 (λ e4. keep ! (2 ∷ 0 ∷ 3 ∷ 4 ∷ 5 ∷ []) $
      by ! (subst (λ (ws : List Val × List Val × List Val × List Val × List Val). ent 𝓤 (⋆ 𝓛 Had) (WpFn 𝓤 H C Λ (function E Z) (ws.0 ++ (ws.1 ++ (ws.2 ++ (ws.3 ++ (ws.4 ++ []))))) Post))
      (λ j. (sym e0 j, sym e1 j, sym e2 j, sym e3 j, sym e4 j)) (walk asked fits))))))))

meets : (E : El) (Z : Al) {M : Type 1} {𝓤 : Ura M} (𝓛 : Logic 𝓤) (at_mem : Memory → SProp 𝓤) (run : Routine → Fun 𝓤) (𝓣 : Tables 𝓤 𝓛.H) → Triple 𝓤 (𝓣.C (gives_key Z)) (Gives Z 𝓛 at_mem run)
    → Meets 𝓛 (ended E Z).signature (WpFn 𝓤 𝓛.H 𝓣.C 𝓣.Λ (function E Z)) (closing 𝓛 (ended E Z) (clauses E Z 𝓛 at_mem run))
meets E Z {𝓤 = 𝓤} 𝓛 at_mem run 𝓣 callee =
    walk_Meets 𝓛 (ended E Z) (stayed E Z) (
      Goes-dropped 𝓛 3 (RefOf (0 ∷ []) tt (plain (λ _. P E Z)) (λ _. tt)) yes (λ κs x f. refl),
      (
        Goes-dropped 𝓛 3 (plain (λ _. Sta E)) no (λ κs x f. refl),
        (
          Goes-dropped 𝓛 3 (plain (λ _. usize)) yes (λ κs x f. refl),
          (Goes-blank 𝓛 3 (plain (λ _. Its E)) no (λ κs x f. tt), (Goes-blank 𝓛 3 (plain (λ _. Ded E Z)) no (λ κs x f. tt), tt)),
        ),
      ),
    )
    (clauses E Z 𝓛 at_mem run) (WpFn 𝓤 𝓛.H 𝓣.C 𝓣.Λ (function E Z)) (WpFn-mono 𝓤 𝓛.H 𝓛.laws 𝓣 (function E Z))
    (λ z. let κs = z.0.0 in let qs = z.0.1 in let a = z.0.3 in let vss = z.0.4 in
    let On : SProp 𝓤 = on_entry 𝓛 (ended E Z).signature κs qs a vss in
    let asks = Asks E Z a.0.now a.1.0 a.1.1.0 a.1.1.1.0 a.1.1.1.1.0 in
    second 𝓤 (κs.1.0 ⊑ E.row.lives) (κs.1.1.0 ⊑ Z.row.lives) On (fact 𝓤 asks) (λ inside. needs 𝓤 asks On
    (entry E Z 𝓛 at_mem run 𝓣.C 𝓣.Λ (fm_of 𝓤 𝓛.H 𝓛.laws 𝓣) callee κs.0 κs.1.0 κs.1.1.0 qs.0 qs.1.0 qs.1.1.0 z.0.2.0 inside a.0.ref_ptr.0 a.0.ref_ptr.1 a.0.now
    a.1.0 a.1.1.0 a.1.1.1.0 a.1.1.1.1.0 vss.0 vss.1.0 vss.1.1.0 vss.1.1.1.0 vss.1.1.1.1.0)))

pub deallocate_spec : {M : Type 1} → stated.statement M
unfolding tables_of
deallocate_spec 𝓤 𝓛 𝓜 𝓡 wired X W LX LW g d dd met md =
    let E : El = record { row = X; laws = LX } in
    let Z : Al = record { row = W; laws = LW; g = g; d = d; drops = dd } in
    let 𝓣 : Tables 𝓤 𝓛.H = tables_of 𝓤 𝓛.H 𝓜 (tables 𝓤 𝓛.H 𝓜 𝓡 𝓡.env) in
    entered 𝓤 𝓛.H (triple_of 𝓛 (ended E Z).signature (stands.spec X W g d dd 𝓛 𝓜.mem 𝓡.returns)) 𝓣.C 𝓣.Λ (#self (args E Z)) (function E Z)
    (code.unfolded 𝓤 𝓛.H 𝓜 𝓡 wired (X, (W, tt)) d dd) (meets E Z 𝓛 𝓜.mem 𝓡.returns 𝓣 (met.deallocate dd))
