use Rattle.std.proofs.Common.{◌∙◌}
use Rattle.toml.proofs.Views.{table_get}
use Rattle.pl_table.specs.Tables.Tree.{tables_under}
use Rattle.pl_table.proofs.tables.text.tree.tables_under.Goals as goal

pub returns-in-Some : goal.returns-in-Some
unfolding tables_under
returns-in-Some c =
    let found = table_get c.get.result c.args.key.now c.args.tree.now.entries c.get.ensures.value in
    record { value = c.tables_in.ensures.value ∙ rw (← rw c.in-Some.is at found) }

pub returns-in-None : goal.returns-in-None
unfolding tables_under
returns-in-None c =
    let found = table_get c.get.result c.args.key.now c.args.tree.now.entries c.get.ensures.value in
    record { value = rw (← rw c.in-None.is at found) }
