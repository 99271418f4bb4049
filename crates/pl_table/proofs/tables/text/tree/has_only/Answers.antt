use Rattle.std.proofs.Common.{◌∙◌, sym}
use Rattle.pl_table.proofs.Trees.{has_only-Table}
use Rattle.pl_table.proofs.tables.text.tree.has_only.Goals as goal

pub returns-in-Table : goal.returns-in-Table
returns-in-Table c = record { value = c.has_keys_of.ensures.value ∙ rw c.in-Table.is (sym (has_only-Table _ c.in-Table.members)) }
