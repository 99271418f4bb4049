use Rattle.std.proofs.Common.{arith}
use Rattle.std.proofs.lemmas.Grind.{common_steps}
use Rattle.pl_table.proofs.tables.reach.Reach.after.Goals as goal

pub returns-then-row-2 : goal.returns-then-row-2
returns-then-row-2 c = grind (arith, common_steps)

pub returns-else-row-2 : goal.returns-else-row-2
returns-else-row-2 c = grind (arith, common_steps)
