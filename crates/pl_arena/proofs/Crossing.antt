-- A block may cross threads as its items and its allocator may.
use Prim.Native.Nat.{ℕ, ◌+◌}
use mathlib.Core.List.{List, [], ◌∷◌}
use base.Fraction.{full_share}
use base.Shift.{Keyless}
use types.SemTy.{cells}
use denote.RattleType.{RattleType}
use denote.Memory.{mem}
use denote.RawPtr.{Ptr, block_ptr, null_ptr}
use denote.Slice.{elements_shared}
use denote.Struct.Struct.{exits_of}
use denote.Struct.Owning.{shape, fields, to}
use denote.Param.Send.{IsSend, IsSync, Common, AllSend, part_keyless, owning_send, struct_send, struct_sync, sendable}
use Rattle.std.specs.Mem.{type_size}
use Rattle.core.specs.declared.alloc.Allocator.{Ghosts}
use Rattle.std_alloc.proofs.SendSync.{FreesAnywhere, quiet}
use Rattle.pl_arena.specs.Ownership.{items_own, items_lent}
use Rattle.pl_arena.specs.contracts.memory.Items as Items
use Rattle.pl_arena.specs.contracts.memory.Deed as Deed

module _ (R : RattleType) where
  each_keyless : IsSend R → (xs : List R.Denot) (b o : ℕ) → Keyless (cells (mem R) xs b o)
  each_keyless s [] b o = tt
  each_keyless s (x ∷ xs) b o = (part_keyless R s full_share x b o, each_keyless s xs b (o + type_size R))

  each_common : IsSync R → (xs : List R.Denot) (b o : ℕ) → Common (elements_shared R xs b o)
  each_common s [] b o κ = tt
  each_common s (x ∷ xs) b o κ = (s.shared x b o κ, each_common s xs b (o + type_size R) κ)

  owned_keyless : IsSend R → (p : Ptr) (xs : List R.Denot) (n : ℕ) → Keyless (items_own R p xs n)
  owned_keyless s (block_ptr b o) xs n = (tt, (each_keyless s xs b o, tt))
  owned_keyless s null_ptr xs n = tt

  lent_common : IsSync R → (p : Ptr) (xs : List R.Denot) (n : ℕ) → Common (items_lent R p xs n)
  lent_common s (block_ptr b o) xs n κ = (tt, each_common s xs b o κ)
  lent_common s null_ptr xs n κ = tt

  pub Items-send : IsSend R → IsSend (Items.the_row R)
  Items-send s =
      let O = Items.the_type R in
      let all : AllSend (fields O) = (search sendable, tt) in
      owning_send O all (λ d. owned_keyless s d.at d.items d.room) (λ k. quiet (to O) (exits_of k (fields O)) ((struct_send (shape O) all).leaving k))

  pub Items-sync : IsSync R → IsSync (Items.the_row R)
  Items-sync s =
      let O = Items.the_type R in
      record { shared = λ d b o κ. ((struct_sync (shape O) (search sendable, tt)).shared (to O d) b o κ, lent_common s d.at d.items d.room κ) }

  module _ (A : RattleType) (g : Ghosts A.Denot) where
    pub Deed-send : FreesAnywhere A.Denot g → IsSend (Deed.the_row R A g)
    Deed-send frees =
        let O = Deed.the_type R A g in
        let all : AllSend (fields O) = (search sendable, tt) in
        owning_send O all (λ d. frees.frees d.alloc _ d.at) (λ k. quiet (to O) (exits_of k (fields O)) ((struct_send (shape O) all).leaving k))

    pub Deed-sync : IsSync (Deed.the_row R A g)
    Deed-sync =
        let O = Deed.the_type R A g in
        record { shared = λ d b o κ. ((struct_sync (shape O) (search sendable, tt)).shared (to O d) b o κ, tt) }
