use Rattle.std.proofs.Common.{arith}
use Rattle.std.proofs.lemmas.Grind.{common_steps}
use Rattle.pl_desk.proofs.turn.count_made.Goals as goal

pub returns-else-made-clause-turn : goal.returns-else-made-clause-turn
returns-else-made-clause-turn c = grind (arith, common_steps)
