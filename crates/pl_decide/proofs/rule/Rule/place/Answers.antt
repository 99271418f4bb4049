use Rattle.std.proofs.Common.{arith}
use Rattle.std.proofs.lemmas.Grind.{common_steps}
use Rattle.pl_decide.proofs.rule.Rule.place.Goals as goal

pub returns-in-BelowQuorum : goal.returns-in-BelowQuorum
returns-in-BelowQuorum c = grind (arith, common_steps)
