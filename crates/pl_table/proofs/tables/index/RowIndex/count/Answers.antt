use Rattle.std.proofs.Common.{List, length, ap, ◌∙◌}
use Rattle.pl_table.specs.Requests.Asking.{asked_by}
use Rattle.pl_table.specs.declared.tables.row.Row.{Row}
use Rattle.pl_table.specs.Tables.Index.{can_match}
use Rattle.pl_table.proofs.Listed.{length-places}
use Rattle.pl_table.proofs.tables.index.RowIndex.count.Goals as goal

pub returns : goal.returns
returns c = record { value = λ (rows : List Row) is. ap length (c.listed.ensures.value rows is) ∙ length-places 0 (can_match (asked_by c.args.asking.now)) rows }
