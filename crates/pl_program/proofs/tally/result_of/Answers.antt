use Rattle.std.proofs.Common.{arith}
use Rattle.std.proofs.lemmas.Grind.{common_steps}
use Rattle.pl_program.proofs.tally.result_of.Goals as goal

pub returns-in-Accept : goal.returns-in-Accept
returns-in-Accept c = grind (arith, common_steps)
