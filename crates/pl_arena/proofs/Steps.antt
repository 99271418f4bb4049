-- What the walks of src/memory.rt share: the names that they cite, the parts of a block as machine values, and rows of items.
-- Assumes `Logic`.
pub use mathlib.Core.Path.{◌≡◌, refl, sym, ap, subst, ◌∙◌}
pub use Prim.Native.Nat.{ℕ, zero, suc, ◌+◌, ◌-◌, ◌*◌, ◌<◌, ◌≤◌, ◌^◌}
pub use native.Mathlib.Omega.{arith}
pub use mathlib.Core.List.{List, [], ◌∷◌, ◌++◌}
pub use lib.ListN.{length, get_or, set, length-append, length-set}
pub use seplogic.Ra.Ura.{Ura}
pub use base.Fraction.{full_share}
pub use base.Logic.{SProp, ent, sep, never, id⊢}
pub use base.Fml.{Lft, GName, Share, Fml, ftrue, fsep, fat, froom, flft, fobs, fbor, Incl-trans}
pub use mir.Syntax.{Fn, Body, named, w64, ty_array}
pub use mir.MapTy.{inst_fn}
pub use mir.Val.{Val, vptr, vint, vunit, vstruct, vcons, vnil, of_list}
pub use prog.Wp.{Env, Calls, Loops, WpFn, Tables}
pub use types.Logic.{Logic, sem}
pub use types.SemTy.{cells}
pub use contract.Monad.{fact}
pub use contract.Running.{tables}
unfoldable pub use contract.Running.{tables_of}
pub use sound.WpLaws.{WpFn-mono}
pub use types.Kit.{Item, ⋆, ‵, raw, ◌⊛◌, some, later, given, await, pick, learn, at_ret, ◌$◌, ◌∵◌, !, qed, by, move, keep, drop, use0, use1, use2, use3, split, join, group, rewrite, fsplit, fsplit3, fjoin, fjoin3, fpick, fpack, feq_i, feq_l, flt_l, flt_i, suffices, frame, done}
pub use types.Part.{whole, sub, agg}
pub use types.Run.{stop, fld, of_opd, addr, unit_lit, lit, bin, size_lit, size_word, init, and_then, no_more, assigns_last, first, blocks, exec, returns, enter}
pub use types.ByLocal.{alloc_all, pass_all, free_all, look_at, get, get_in, through, take_at, give_at, sets, sets_last, is, env}
pub use denote.Exit.{yes, no}
pub use denote.RattleType.{RattleType, owns}
pub use denote.Memory.{mem, part_at, cell_at, hidden_shr}
unfoldable pub use denote.Memory.{part_of}
pub use denote.Param.{layout}
pub use denote.RawPtr.{Ptr, RawPtr, ptr_val, block_ptr, in_a_block}
pub use denote.Builtin.{usize, unit}
pub use denote.Signature.{plain, mut_ref_to}
pub use denote.Steps.{nothing, opens, closes}
pub use denote.Triple.Carry.{spared}
pub use denote.Triple.Clauses.{Clauses, Ended, closing}
pub use denote.Triple.Entry.{on_entry}
pub use denote.Triple.Spec.{Meets, triple_of}
pub use denote.Triple.Table.{entered, run_framed}
pub use denote.Triple.Walked.{says, needs, Stays, stay_dropped, stay_ref, walk_of, ends_at, Goes-dropped, Goes-ref, Goes-spent_ref, walk_Meets}
pub use Rattle.core.proofs.mem.Param.{El, R, args, el_x, elτ}
pub use Rattle.core.proofs.ptr.Rows.{times_below}
pub use Rattle.std_alloc.proofs.VecSteps.Shapes.{after}
pub use Rattle.std_alloc.proofs.RcSteps.{Good, word, word-Good}
pub use Rattle.std_alloc.proofs.RawLayout.{as_raw, as_written}
use native.Mathlib.Nat.{zero-mul, suc-mul}
use types.Kit.{Goal, Seq, Step, step}
use denote.Laws.{Typed, Is, shows}
use denote.Param.Laws.{param_laws}
use denote.RattleType.{Valss}
use denote.Shadow.{makes_shadow}
use denote.Steps.{peeks}
use denote.Struct.Struct.{Shape, Struct, within}
use denote.Struct.Owning.{shape}
use Rattle.std.specs.Mem.{type_size}
use Rattle.core.proofs.ptr.Rows as rows
use Rattle.pl_arena.specs.contracts.memory.Items as Items
use Rattle.pl_arena.specs.contracts.memory.Start as Start

module _ (E : El) where
  -- the types of the parts at this item
  abbrev pub Its : RattleType
  Its = Items.the_row (R E)

  abbrev pub Sta : RattleType
  Sta = Start.the_row (R E)

  abbrev pub sz : ℕ
  sz = type_size (R E)

  -- the one field of `Items` and of `Deed`, of no bytes
  abbrev pub Mark : RattleType
  Mark = Struct (shape (Items.the_type (R E)))

  abbrev item : rows.El
  item = record { row = E.row; laws = E.laws }

abbrev pub mark : Val
mark = vstruct (vcons (vstruct vnil) vnil)

-- a struct of one pointer
abbrev pointed : Shape
pointed = record { name = []; args = []; types = []; fields = RawPtr ∷ [] }

abbrev pub Pointed : RattleType
Pointed = Struct pointed

pub mark_made : (E : El) {M : Type 1} {𝓤 : Ura M} (𝓛 : Logic 𝓤) → ent 𝓤 (sem 𝓛 ftrue) (sem 𝓛 ((Mark E).own_val (tt, tt) (mark ∷ [])))
mark_made E 𝓛 = makes_shadow 𝓛 ((Mark E).own_val (tt, tt) (mark ∷ [])) (λ vss. (tt, ((λ uss. (tt, tt)), tt))) ((vstruct vnil ∷ [], tt), (refl, ((tt, (refl, tt)), tt)))

module _ {M : Type 1} {𝓤 : Ura M} {𝓛 : Logic 𝓤} {K : Type 0} {Γ : List (Item 𝓤)} {G : Goal 𝓤 𝓛.H} where
  -- which machine value a start is
  pub start_told : K → (p : Ptr) (vs : List Val) → (vs ≡ word p ∷ [] → Seq K 𝓛 Γ G) → Seq K 𝓛 (‵ (Pointed.own_val (p, tt) vs) ∷ Γ) G
  start_told t p vs on =
      fpick t (λ vss. fsplit t $ feq_l t (λ shaped. fsplit t $ feq_l t (λ field. drop t $
      on (subst (λ (ws : List Val). vs ≡ vstruct (of_list (ws ++ [])) ∷ []) field shaped))))

  -- a start is made of its machine value
  pub start_made : K → (p : Ptr) → Step K 𝓛 (‵ (Pointed.own_val (p, tt) (word p ∷ [])) ∷ Γ) G Γ G
  start_made t p = step (λ s.
      nothing t $ feq_i t (List Val) (ptr_val p ∷ []) (ptr_val p ∷ []) refl $ fjoin t $
      feq_i t (List Val) (word p ∷ []) (word p ∷ []) refl $ fjoin t $
      fpack t (Valss (RawPtr ∷ [])) (within pointed (p, tt) (word p ∷ [])) (ptr_val p ∷ [], tt) $ s)

  -- which machine value a mark is
  pub mark_told : K → (E : El) (vs : List Val) → (vs ≡ mark ∷ [] → Seq K 𝓛 Γ G) → Seq K 𝓛 (‵ ((Mark E).own_val (tt, tt) vs) ∷ Γ) G
  mark_told t E vs on =
      fpick t (λ vss. fsplit t $ feq_l t (λ shaped. fsplit t $ fpick t (λ uss. fsplit t $ feq_l t (λ field. drop t $ drop t $
      on (subst (λ (ws : List Val). vs ≡ vstruct (of_list (ws ++ [])) ∷ []) field shaped)))))

-- the item at an index, whatever the default
pub item_at : {X : Type 0} (xs : List X) (i : ℕ) → i < length xs → (x : X) × ((d : X) → get_or xs i d ≡ x)
item_at [] i lt = absurd (omega (arith, lt))
item_at (x ∷ xs) zero lt = (x, λ d. refl)
item_at (x ∷ xs) (suc i) lt = item_at xs i (omega (arith, lt))

-- sizes of a block are numbers of the machine
pub block_fits : (n : ℕ) → n < 2 ^ 63 → n < 2 ^ 64
block_fits n small = omega (arith, small)

pub item_fits : (c s : ℕ) → 0 < c → c * s < 2 ^ 63 → s < 2 ^ 64
item_fits c s more small = block_fits s (rows.one_below c s (2 ^ 63) more small)

pub part_fits : (i c s : ℕ) → i ≤ c → c * s < 2 ^ 63 → i * s < 2 ^ 64
part_fits i c s within small = block_fits (i * s) (rows.times_below i c s (2 ^ 63) within small)

-- where the room begins after n items, and after one more
pub past : (len n k s o : ℕ) → len ≡ n → k ≡ n + 1 → len * s + o + s ≡ k * s + o
past len n k s o e more = omega (arith, ap (λ (j : ℕ). j * s) e, ap (λ (j : ℕ). j * s) more ∙ rows.next n s)

lone_value : (E : El) (vs : List Val) → Typed (elτ E ∷ []) vs → (v : Val) × ((vs ≡ v ∷ []) × Good (elτ E) v)
lone_value E [] is = absurd is
lone_value E (v ∷ []) is = (v, (refl, is.0))
lone_value E (v ∷ w ∷ vs) is = absurd is.1

module _ (E : El) {M : Type 1} {𝓤 : Ura M} {𝓛 : Logic 𝓤} {K : Type 0} {Γ : List (Item 𝓤)} {G : Goal 𝓤 𝓛.H} where
  -- an item is one machine value, of its type
  pub item_told : K → (x : el_x E) (vs : List Val) → ((v : Val) → vs ≡ v ∷ [] → Good (elτ E) v → Seq K 𝓛 (‵ (E.row.own_val x (v ∷ [])) ∷ Γ) G) → Seq K 𝓛 (‵ (E.row.own_val x vs) ∷ Γ) G
  item_told t x vs on =
      peeks t (R E) (Is (R E)) (shows 𝓛 (R E)) x vs (λ has.
      let one = lone_value E vs (((param_laws 0 E.row E.laws).lawful 𝓛).typed x vs has) in
      rewrite t 0 (λ (us : List Val). ‵ (E.row.own_val x us)) one.1.0 refl $ on one.0 one.1.0 one.1.1)

-- rows of items in the block b
module _ (E : El) {M : Type 1} {𝓤 : Ura M} (𝓛 : Logic 𝓤) (b : ℕ) where
  open 𝓛 use {H}

  abbrev s : ℕ
  s = sz E

  abbrev pub Row : ℕ → List (el_x E) → Fml
  Row o xs = cells (mem (R E)) xs b o

  pub item_in : (x : el_x E) (o : ℕ) (v : Val) → ent 𝓤 (sep 𝓤 (H.at full_share (elτ E) b o v) (sem 𝓛 (E.row.own_val x (v ∷ [])))) (sem 𝓛 (part_at (R E) full_share x b o))
  item_in x o v = rows.el_in (item E) 𝓛 full_share x b o v

  -- an item is let go, and its place is room
  item_gone : (x : el_x E) (o : ℕ) → ent 𝓤 (sem 𝓛 (part_at (R E) full_share x b o)) (H.room (elτ E) b o)
  item_gone x o = qed 𝓛 (‵ (part_at (R E) full_share x b o) ∷ []) ∵
      use1 𝓛 (some (λ (v : Val). given (Good (elτ E) v) (‵ (fat full_share (elτ E) b o v) ⊛ ‵ (E.row.own_val x (v ∷ []))))) (rows.el_out (item E) 𝓛 full_share x b o) $
      pick ! (λ v. learn ! (λ _. split ! $ keep ! (0 ∷ []) $ by ! (𝓛.laws.at_room (elτ E) b o v)))

  -- one item more after a row
  pub longer : (xs : List (el_x E)) (x : el_x E) (o at : ℕ) → at ≡ length xs * s + o
      → ent 𝓤 (sep 𝓤 (sem 𝓛 (Row o xs)) (sem 𝓛 (part_at (R E) full_share x b at))) (sem 𝓛 (Row o (xs ++ x ∷ [])))
  longer [] x o at e =
      let here : at ≡ o = omega (arith, e, zero-mul s) in
      qed 𝓛 (‵ ftrue ∷ ‵ (part_at (R E) full_share x b at) ∷ []) ∵ drop ! $
      rewrite ! 0 (λ (k : ℕ). ‵ (part_at (R E) full_share x b k)) here refl $ nothing ! $ move ! (1 ∷ 0 ∷ []) $ fjoin ! $ done !
  longer (y ∷ ys) x o at e =
      qed 𝓛 (‵ (Row o (y ∷ ys)) ∷ ‵ (part_at (R E) full_share x b at) ∷ []) ∵ fsplit ! $ move ! (1 ∷ 2 ∷ []) $
      use2 𝓛 (‵ (Row (o + s) (ys ++ x ∷ []))) (longer ys x (o + s) at (omega (arith, e, suc-mul (length ys) s))) $ move ! (1 ∷ 0 ∷ []) $ fjoin ! $ done !

  -- a row but for the item at the index
  abbrev pub besides : List (el_x E) → ℕ → ℕ → Fml
  besides [] i o = ftrue
  besides (x ∷ xs) zero o = Row (o + s) xs
  besides (x ∷ xs) (suc i) o = fsep (part_at (R E) full_share x b o) (besides xs i (o + s))

  -- the item at the index is taken out of the row
  pub taken_out : (xs : List (el_x E)) (i : ℕ) (d : el_x E) (o at : ℕ) → i < length xs → at ≡ i * s + o
      → ent 𝓤 (sem 𝓛 (Row o xs)) (sep 𝓤 (sem 𝓛 (part_at (R E) full_share (get_or xs i d) b at)) (sem 𝓛 (besides xs i o)))
  taken_out [] i d o at lt e = absurd (omega (arith, lt))
  taken_out (x ∷ xs) zero d o at lt e =
      let here : o ≡ at = omega (arith, e, zero-mul s) in
      qed 𝓛 (‵ (Row o (x ∷ xs)) ∷ []) ∵ fsplit ! $ rewrite ! 0 (λ (k : ℕ). ‵ (part_at (R E) full_share x b k)) here refl $ done !
  taken_out (x ∷ xs) (suc i) d o at lt e =
      let y = get_or xs i d in
      qed 𝓛 (‵ (Row o (x ∷ xs)) ∷ []) ∵ fsplit ! $ move ! (1 ∷ []) $
      use1 𝓛 (‵ (part_at (R E) full_share y b at) ⊛ ‵ (besides xs i (o + s))) (taken_out xs i d (o + s) at (omega (arith, lt)) (omega (arith, e, suc-mul i s))) $ split ! $
      move ! (2 ∷ 1 ∷ []) $ fjoin ! $ move ! (1 ∷ 0 ∷ []) $ done !

  -- an item takes its place
  pub put_back : (xs : List (el_x E)) (i : ℕ) (y : el_x E) (o at : ℕ) → i < length xs → at ≡ i * s + o
      → ent 𝓤 (sep 𝓤 (sem 𝓛 (part_at (R E) full_share y b at)) (sem 𝓛 (besides xs i o))) (sem 𝓛 (Row o (set xs i y)))
  put_back [] i y o at lt e = absurd (omega (arith, lt))
  put_back (x ∷ xs) zero y o at lt e =
      let here : at ≡ o = omega (arith, e, zero-mul s) in
      qed 𝓛 (‵ (part_at (R E) full_share y b at) ∷ ‵ (Row (o + s) xs) ∷ []) ∵ rewrite ! 0 (λ (k : ℕ). ‵ (part_at (R E) full_share y b k)) here refl $ fjoin ! $ done !
  put_back (x ∷ xs) (suc i) y o at lt e =
      qed 𝓛 (‵ (part_at (R E) full_share y b at) ∷ ‵ (besides (x ∷ xs) (suc i) o) ∷ []) ∵ move ! (1 ∷ []) $ fsplit ! $ move ! (2 ∷ 1 ∷ []) $
      use2 𝓛 (‵ (Row (o + s) (set xs i y))) (put_back xs i y (o + s) at (omega (arith, lt)) (omega (arith, e, suc-mul i s))) $ move ! (1 ∷ 0 ∷ []) $ fjoin ! $ done !

  -- a row with the room after it is room
  pub emptied : (xs : List (el_x E)) (n all o at : ℕ) → all ≡ length xs + n → at ≡ length xs * s + o
      → ent 𝓤 (sep 𝓤 (sem 𝓛 (Row o xs)) (H.room (ty_array (elτ E) n) b at)) (H.room (ty_array (elτ E) all) b o)
  emptied [] n all o at long e =
      let here : at ≡ o = omega (arith, e, zero-mul s) in
      let none : n ≡ all = omega (arith, long) in
      qed 𝓛 (‵ ftrue ∷ ‵ (froom (ty_array (elτ E) n) b at) ∷ []) ∵ drop ! $
      rewrite ! 0 (λ (k : ℕ). ‵ (froom (ty_array (elτ E) n) b k)) here refl $
      rewrite ! 0 (λ (k : ℕ). ‵ (froom (ty_array (elτ E) k) b o)) none refl $ done !
  emptied (y ∷ ys) n all o at long e =
      let rest = length ys + n in
      let more : suc rest ≡ all = omega (arith, long) in
      qed 𝓛 (‵ (Row o (y ∷ ys)) ∷ ‵ (froom (ty_array (elτ E) n) b at) ∷ []) ∵ fsplit ! $
      use1 𝓛 (‵ (froom (elτ E) b o)) (item_gone y o) $ move ! (1 ∷ 2 ∷ []) $
      use2 𝓛 (‵ (froom (ty_array (elτ E) rest) b (o + s))) (emptied ys n rest (o + s) at refl (omega (arith, e, suc-mul (length ys) s))) $ move ! (1 ∷ 0 ∷ []) $
      use2 𝓛 (‵ (froom (ty_array (elτ E) (suc rest)) b o)) (𝓛.laws.room_cons (elτ E) rest b o) $
      rewrite ! 0 (λ (k : ℕ). ‵ (froom (ty_array (elτ E) k) b o)) more refl $ done !

  -- the first place of room for one or more
  pub first_place : (n m o : ℕ) → n ≡ suc m → ent 𝓤 (H.room (ty_array (elτ E) n) b o) (sep 𝓤 (H.room (elτ E) b o) (H.room (ty_array (elτ E) m) b (o + s)))
  first_place n m o e = subst (λ (k : ℕ). ent 𝓤 (H.room (ty_array (elτ E) k) b o) (sep 𝓤 (H.room (elτ E) b o) (H.room (ty_array (elτ E) m) b (o + s)))) (sym e) (𝓛.laws.room_uncons (elτ E) m b o)
