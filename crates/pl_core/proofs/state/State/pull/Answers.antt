use Rattle.std.proofs.Common.{arith}
use Rattle.std.proofs.lemmas.Grind.{common_steps}
use Rattle.pl_core.proofs.state.State.pull.Goals as goal

pub returns-clause-reply : goal.returns-clause-reply
returns-clause-reply c = grind (arith, common_steps)
