use Rattle.pl_pages.proofs.Images.{images_are_whole}
use Rattle.pl_pages.proofs.laws.images_are_whole.Goals as goal

pub returns : goal.returns
returns c = record { law = images_are_whole }
