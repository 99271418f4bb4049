use Rattle.std.proofs.Common.{sym}
use Rattle.pl_table.proofs.Spans.{list_any-between}
use Rattle.pl_table.proofs.tables.range.PartitionRange.has_any_between.Goals as goal

pub returns : goal.returns
returns c = record { value = rw (c.max.ensures, c.min.ensures) (sym (list_any-between c.args.self.now c.args.lo c.args.hi c.requires)) }
