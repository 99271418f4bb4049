use Rattle.std.proofs.Common.{codes, refl, ◌∙◌}
use Rattle.toml.proofs.Views.{table_get}
use Rattle.pl_table.proofs.tables.text.part.zone_under.Goals as goal

pub returns : goal.returns
returns c =
    let copies = table_get c.get.result (codes "copies") c.args.tree.now.entries c.get.ensures.value in
    let quorum = table_get c.get-2.result (codes "quorum") c.args.tree.now.entries c.get-2.ensures.value in
    record { value = c.zone_in.ensures.value ∙ rw (copies, quorum) refl }
