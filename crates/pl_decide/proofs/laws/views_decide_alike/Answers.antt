use Rattle.pl_decide.proofs.Views.{decide_alike}
use Rattle.pl_decide.proofs.laws.views_decide_alike.Goals as goal

pub returns : goal.returns
returns c = record { law = decide_alike }
