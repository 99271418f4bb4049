use Rattle.pl_pages.proofs.Replays.{fits_longer}
use Rattle.pl_pages.proofs.laws.pages_fit_longer_logs.Goals as goal

pub returns : goal.returns
returns c = record { law = fits_longer }
