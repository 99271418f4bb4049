use Rattle.pl_pages.proofs.Replays.{answers_reach}
use Rattle.pl_pages.proofs.laws.answers_reach.Goals as goal

pub returns : goal.returns
returns c = record { law = answers_reach }
