use Rattle.pl_decide.proofs.Each.{known_is_not_unknown}
use Rattle.pl_decide.proofs.laws.unknown_principals_come_first.Goals as goal

pub returns-clause-known : goal.returns-clause-known
returns-clause-known c = known_is_not_unknown
