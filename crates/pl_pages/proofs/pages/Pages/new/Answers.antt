use Rattle.pl_pages.proofs.Replays.{nothing_fits}
use Rattle.pl_pages.proofs.pages.Pages.new.Goals as goal

pub returns-clause-fits : goal.returns-clause-fits
returns-clause-fits c = λ log. nothing_fits _ log c.new.ensures.items c.new-2.ensures.entered c.new-2.ensures.lsns c.new-3.ensures.none
