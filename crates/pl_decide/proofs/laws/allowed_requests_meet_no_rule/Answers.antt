use Rattle.pl_decide.proofs.Each.{meets_no_rule}
use Rattle.pl_decide.proofs.Acts.{may_be_served}
use Rattle.pl_decide.proofs.laws.allowed_requests_meet_no_rule.Goals as goal

pub returns-clause-rules : goal.returns-clause-rules
returns-clause-rules c = meets_no_rule

pub returns-clause-served : goal.returns-clause-served
returns-clause-served c = may_be_served
