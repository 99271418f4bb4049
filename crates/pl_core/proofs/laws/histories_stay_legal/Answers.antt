use Rattle.pl_core.proofs.Replies.{stays_legal}
use Rattle.pl_core.proofs.laws.histories_stay_legal.Goals as goal

pub returns : goal.returns
returns c = record { law = stays_legal }
