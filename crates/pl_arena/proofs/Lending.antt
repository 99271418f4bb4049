-- A `&` to a row of items shows each of them. Assumes `Logic`.
use Prim.Native.Nat.{ℕ, ◌+◌, ◌*◌}
use mathlib.Core.List.{List, [], ◌∷◌}
use lib.ListN.{length}
use seplogic.Ra.Ura.{Ura}
use base.Fraction.{full_share}
use base.Fml.{Lft, Incl, ftrue, ffalse, fsep, froom}
use types.Logic.{Logic}
use types.SemTy.{cells}
use denote.RattleType.{RattleType, RowLaws}
use denote.Memory.{mem, part_at, shared_of}
use denote.Param.Laws.{Laws}
use denote.RawPtr.{Ptr, block_ptr, null_ptr}
use denote.Sharing.{ShrLaws, said}
use denote.SharingLaws.{beside_shr_laws, said_shr_laws}
use denote.Shares.{Shares-less}
use denote.Slice.{elements_shared, elements_shr_laws}
use denote.Struct.Lending.{Lends, Lends-both, Lends-first, Lends-nothing, Lends-said, Lends-false}
use Rattle.std.specs.Mem.{type_size}
use Rattle.pl_arena.specs.Ownership.{places, is_small, items_own, items_lent}

pub items_shr_laws : (R : RattleType) → RowLaws R → (p : Ptr) (xs : List R.Denot) (n : ℕ) → ShrLaws (items_lent R p xs n)
items_shr_laws R L (block_ptr b o) xs n = beside_shr_laws _ _ (said_shr_laws (is_small R xs n) tt) (elements_shr_laws R L xs b o)
items_shr_laws R L null_ptr xs n = said_shr_laws ffalse tt

module _ {M : Type 1} {𝓤 : Ura M} (𝓛 : Logic 𝓤) (l : Lft) (R : RattleType) (L : Laws R) (inc : Incl l R.lives) where
  -- item by item
  each : (xs : List R.Denot) (b o : ℕ) → Lends 𝓛 (cells (mem R) xs b o) (elements_shared R xs b o) l
  each [] b o = Lends-nothing 𝓛 ftrue l
  each (x ∷ xs) b o =
      let next = o + type_size R in
      Lends-both 𝓛 (part_at R full_share x b o) (cells (mem R) xs b next) (shared_of R x b o) (elements_shared R xs b next) l
      (λ κ ts. Shares-less 𝓛 R R.lives l inc (L.shares 𝓛) x κ ts b o) (each xs b next)

  -- the room after them is let go for the time
  pub Lends-items : (p : Ptr) (xs : List R.Denot) (n : ℕ) → Lends 𝓛 (items_own R p xs n) (items_lent R p xs n) l
  Lends-items (block_ptr b o) xs n =
      let small = is_small R xs n in
      let row = cells (mem R) xs b o in
      let past = froom (places R n) b (length xs * type_size R + o) in
      Lends-both 𝓛 small (fsep row past) (said small) (elements_shared R xs b o) l (Lends-said 𝓛 small tt l)
      (Lends-first 𝓛 row past (elements_shared R xs b o) l (each xs b o))
  Lends-items null_ptr xs n = Lends-false 𝓛 (said ffalse) l
