use Rattle.std.proofs.Common.{arith}
use Rattle.std.proofs.lemmas.Grind.{common_steps}
use Rattle.pl_play.proofs.operator_words.admin.Goals as goal

pub returns-clause-head : goal.returns-clause-head
returns-clause-head c = grind (arith, common_steps)
