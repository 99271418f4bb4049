use Rattle.pl_desk.proofs.Binding.{passes_that_meet_saw_one_history}
use Rattle.pl_desk.proofs.laws.passes_that_meet_saw_one_history.Goals as goal

pub returns : goal.returns
returns c = record { law = passes_that_meet_saw_one_history }
