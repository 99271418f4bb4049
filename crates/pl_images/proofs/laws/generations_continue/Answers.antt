use Rattle.pl_images.proofs.Generations.{generations_continue}
use Rattle.pl_images.proofs.laws.generations_continue.Goals as goal

pub returns : goal.returns
returns c = record { law = generations_continue }
