-- What the parts of a block own and lend, at items of the row R.
use Rattle.std.specs.Prelude.{ℕ, ◌+◌, ◌*◌, ◌^◌, List, length}
use Rattle.std.specs.Mem.{type_size}
use base.Fml.{Lft, Fml, ffalse, fsep, flt, froom}
use mir.Syntax.{Ty, ty_array}
use mir.Raw.{raw}
use types.SemTy.{cells}
use denote.RattleType.{RattleType}
use denote.Memory.{lone, mem}
use denote.Slice.{elements_shared}
use denote.Sharing.{said, beside}
use denote.RawPtr.{Ptr, block_ptr, null_ptr}

module _ (R : RattleType) where
  -- room for n items side by side
  abbrev pub places : ℕ → Ty
  places n = raw (ty_array (lone R.mir) n)

  -- the items, and the room for n after them, take fewer than 2 ^ 63 bytes
  abbrev pub is_small : List R.Denot → ℕ → Fml
  is_small items n = flt ((length items + n) * type_size R) (2 ^ 63)

  -- the items one after the other, and room for n after them
  abbrev pub items_own : Ptr → List R.Denot → ℕ → Fml
  items_own (block_ptr b o) items n = fsep (is_small items n) (fsep (cells (mem R) items b o) (froom (places n) b (length items * type_size R + o)))
  items_own null_ptr items n = ffalse

  -- a `&` shows the items
  abbrev pub items_lent : Ptr → List R.Denot → ℕ → Lft → Fml
  items_lent (block_ptr b o) items n = beside (said (is_small items n)) (elements_shared R items b o)
  items_lent null_ptr items n = said ffalse

  -- the allocator's token for a block of n items
  abbrev pub deed_owns : (Ty → Ptr → Fml) → Ptr → ℕ → Fml
  deed_owns token p n = token (places n) p
