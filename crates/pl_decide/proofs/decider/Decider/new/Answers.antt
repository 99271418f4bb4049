use Rattle.pl_decide.proofs.Cached.{agrees-none}
use Rattle.pl_decide.proofs.decider.Decider.new.Goals as goal

pub returns-clause-agrees : goal.returns-clause-agrees
returns-clause-agrees c t = rw c.in_ok-sparse.ensures (agrees-none t)
