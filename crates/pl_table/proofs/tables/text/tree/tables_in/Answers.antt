use Rattle.std.proofs.Common.{◌≡◌, true, false}
use Rattle.std.specs.List.{list_all}
use Rattle.toml.specs.View.{view}
use Rattle.pl_table.specs.Tables.Tree.{is_table}
use Rattle.pl_table.proofs.Trees.{tables_in-Array}
use Rattle.pl_table.proofs.tables.text.tree.tables_in.Goals as goal

pub returns-then-are_tables : goal.returns-then-are_tables
returns-then-are_tables c =
    let t : list_all (λ x. is_table (view x)) c.in-Array.values.items ≡ true = cc in
    let e = tables_in-Array c.in-Array.values true t in
    record { value = cc }

pub returns-else-are_tables : goal.returns-else-are_tables
returns-else-are_tables c =
    let t : list_all (λ x. is_table (view x)) c.in-Array.values.items ≡ false = cc in
    let e = tables_in-Array c.in-Array.values false t in
    record { value = cc }
