-- What is left of items that were lent to be written.
use Rattle.std.specs.Prelude.{ℕ, List, slice_set}
use Rattle.std.specs.Borrow.{Fml, RattleType, MutBor, Array, Lends}
use Rattle.std.specs.List.{refill}
use Rattle.pl_arena.specs.declared.memory.Items.{Items}
use Rattle.pl_arena.specs.contracts.memory.Items.{the_row}

abbrev pub with_items : {X : Type 0} → Items X → List X → Items X
with_items old items = record { mark = old.mark; at = old.at; items = items; room = old.room }

-- the item at the index is the one that was left
abbrev pub LendsItem : (R : RattleType) → MutBor (Items R.Denot) → ℕ → MutBor R.Denot → Fml
LendsItem R i index r = Lends (the_row R) R i r (λ written. with_items i.now (slice_set i.now.items index written))

-- the items are those that were left, as many as there were
abbrev pub LendsItems : (R : RattleType) → MutBor (Items R.Denot) → ℕ → MutBor (List R.Denot) → Fml
LendsItems R i len r = Lends (the_row R) (Array R 0) i r (λ written. with_items i.now (refill len i.now.items written))
