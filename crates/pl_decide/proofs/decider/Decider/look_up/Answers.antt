use Rattle.pl_decide.proofs.Cached.{cache-stays, agrees-stays}
use Rattle.pl_decide.proofs.decider.Decider.look_up.Goals as goal

pub invariant_of-self : goal.invariant_of-self
invariant_of-self c = cache-stays c.self.inside.verdicts c.find.new.verdicts c.find.ensures.stays c.find.ensures.most c.self.invariant

pub returns-clause-found : goal.returns-clause-found
returns-clause-found c = rw (← c.self.view_is) c.find.ensures.found

pub returns-clause-agrees : goal.returns-clause-agrees
returns-clause-agrees c t agrees = agrees-stays c.self.inside.verdicts.entries c.find.new.verdicts.entries t c.find.ensures.stays (rw c.self.view_is agrees)
