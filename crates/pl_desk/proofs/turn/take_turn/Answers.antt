use Rattle.std.proofs.Common.{arith}
use Rattle.std.proofs.lemmas.Grind.{common_steps}
use Rattle.pl_desk.proofs.turn.take_turn.Goals as goal

pub serve-requires-clause-turn : goal.serve-requires-clause-turn
serve-requires-clause-turn c = grind (arith, common_steps)

pub put_back-requires-clause-turn : goal.put_back-requires-clause-turn
put_back-requires-clause-turn c = grind (arith, common_steps)

pub put_back-requires-clause-out : goal.put_back-requires-clause-out
put_back-requires-clause-out c = grind (arith, common_steps)
