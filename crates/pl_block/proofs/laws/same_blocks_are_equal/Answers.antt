use Rattle.pl_block.proofs.Equality.{same_block-Decides}
use Rattle.pl_block.proofs.laws.same_blocks_are_equal.Goals as goal

pub returns : goal.returns
returns c = record { law = same_block-Decides }
