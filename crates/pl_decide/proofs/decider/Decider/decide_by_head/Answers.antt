use Rattle.std.proofs.Common.{arith}
use Rattle.std.proofs.lemmas.Grind.{common_steps}
use Rattle.pl_decide.proofs.decider.Decider.decide_by_head.Goals as goal

pub returns-then-is_other_primary-clause-value : goal.returns-then-is_other_primary-clause-value
returns-then-is_other_primary-clause-value c = grind (arith, common_steps)

pub returns-then-not-has-clause-value : goal.returns-then-not-has-clause-value
returns-then-not-has-clause-value c = grind (arith, common_steps)

pub returns-clause-value : goal.returns-clause-value
returns-clause-value c = grind (arith, common_steps)
