use Rattle.std.proofs.Common.{arith}
use Rattle.std.proofs.lemmas.Grind.{common_steps}
use Rattle.pl_program.proofs.ending.Ending.status.Goals as goal

pub returns-in-Failed : goal.returns-in-Failed
returns-in-Failed c = grind (arith, common_steps)

pub returns-in-Failed-2 : goal.returns-in-Failed-2
returns-in-Failed-2 c = grind (arith, common_steps)
