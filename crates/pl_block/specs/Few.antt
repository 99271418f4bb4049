-- A list that often has one item.
use Rattle.std.specs.Prelude.{List, [], ◌∷◌}
use Rattle.pl_block.specs.declared.few.Few.{Few}
use Rattle.pl_block.specs.declared.few.Few.TheVariants.{One, Many}

-- the items
abbrev pub listed : {T : Type 0} → Few T → List T
listed (One item) = item ∷ []
listed (Many items) = items.items
