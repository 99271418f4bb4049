use Rattle.pl_table.proofs.Trees.{is_some-ops_in}
use Rattle.pl_table.proofs.tables.text.part.lists_ops.Goals as goal

pub returns-in-Array : goal.returns-in-Array
returns-in-Array c =
    let e = is_some-ops_in c.in-Array.values in
    record { value = cc }
