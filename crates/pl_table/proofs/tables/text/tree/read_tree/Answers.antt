use Rattle.std.proofs.Common.{Some}
use Rattle.pl_table.proofs.Trees.{tree_of-other, tree_of-text}
use Rattle.pl_table.proofs.tables.text.tree.read_tree.Goals as goal

pub returns-in_default-clause-exact : goal.returns-in_default-clause-exact
returns-in_default-clause-exact c = tree_of-other c.args.text.now c.in_default.ensures.cases.0

pub returns-in-Ok-table_from_str-clause-exact : goal.returns-in-Ok-table_from_str-clause-exact
returns-in-Ok-table_from_str-clause-exact c = tree_of-text c.args.text.now (Some _) c.in-Ok.ensures.cases.1 (rw c.in-Ok.ensures.cases.0 at c.in-Ok-table_from_str.ensures.ok)
