-- What holds of the parts of a block.
use Rattle.std.specs.Prelude.{◌≡◌, ℕ, ◌+◌, [], ◌∷◌, ◌++◌, length}
use Rattle.pl_arena.specs.declared.memory.Start.{Start}
use Rattle.pl_arena.specs.declared.memory.Items.{Items}
use Rattle.pl_arena.specs.declared.memory.Deed.{Deed}

-- They are one block for this many items, all of it: the items that there are, room for the others, and the right to
-- give it back to this allocator.
pub record IsMemoryBlock {X A : Type 0} (start : Start X) (items : Items X) (deed : Deed X A) (len : ℕ) (alloc : A) : Type 0 where
  pub at_start : items.at ≡ start.first
  pub places : length items.items + items.room ≡ len
  pub right : (deed.at ≡ start.first) × (deed.len ≡ len) × (deed.alloc ≡ alloc)

-- there is an item more, and room for one less
pub record HasMore {X : Type 0} (old : Items X) (item : X) (new : Items X) : Type 0 where
  pub at : new.at ≡ old.at
  pub items : new.items ≡ old.items ++ item ∷ []
  pub room : new.room + 1 ≡ old.room
