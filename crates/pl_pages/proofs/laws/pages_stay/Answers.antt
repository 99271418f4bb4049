use Rattle.pl_pages.proofs.Replays.{page_of_longer}
use Rattle.pl_pages.proofs.laws.pages_stay.Goals as goal

pub returns : goal.returns
returns c = record { law = page_of_longer }
