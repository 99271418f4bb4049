use Rattle.pl_pages.proofs.Sizes.{page_sized}
use Rattle.pl_pages.proofs.laws.pages_keep_their_size.Goals as goal

pub returns : goal.returns
returns c = record { law = page_sized }
