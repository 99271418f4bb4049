use Rattle.std.proofs.Common.{arith}
use Rattle.std.proofs.lemmas.Grind.{common_steps}
use Rattle.pl_program.proofs.opening.opening_of.Goals as goal

pub returns-clause-each : goal.returns-clause-each
returns-clause-each c = grind (arith, common_steps)
