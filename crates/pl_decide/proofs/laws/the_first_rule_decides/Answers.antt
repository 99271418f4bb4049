use Rattle.pl_decide.proofs.FirstDenial.{allowed_exactly, denied_by_the_first}
use Rattle.pl_decide.proofs.laws.the_first_rule_decides.Goals as goal

pub returns-clause-allowed : goal.returns-clause-allowed
returns-clause-allowed c = allowed_exactly

pub returns-clause-first : goal.returns-clause-first
returns-clause-first c = denied_by_the_first
