use Rattle.std.proofs.Common.{arith}
use Rattle.std.proofs.lemmas.Bool.Decides.{nat_tests}
use Rattle.pl_table.proofs.Spans.{list_all-between}
use Rattle.pl_table.proofs.tables.range.PartitionRange.has_all_between.Goals as goal

pub returns-then-self-lo : goal.returns-then-self-lo
returns-then-self-lo c =
    let all = list_all-between c.args.self.now c.args.lo c.args.hi c.requires in
    record { value = grind (arith, nat_tests) }
