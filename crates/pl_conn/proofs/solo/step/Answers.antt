use Rattle.std.proofs.Common.{arith}
use Rattle.std.proofs.lemmas.Grind.{common_steps}
use Rattle.pl_conn.proofs.solo.step.Goals as goal

pub returns-clause-step : goal.returns-clause-step
returns-clause-step c = grind (arith, common_steps)
