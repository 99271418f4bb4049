use Rattle.std.proofs.Common.{◌∙◌}
use Rattle.pl_table.proofs.Trees.{are_names}
use Rattle.pl_table.proofs.tables.text.tree.has_keys_of.Goals as goal

pub returns : goal.returns
returns c = record { value = c.each_is_one_of.ensures.value ∙ are_names c.args.names.now _ }
