use Rattle.pl_block.proofs.Spellings as spellings
use Rattle.pl_block.proofs.laws.one_spelling.Goals as goal

pub returns : goal.returns
returns c = record { law = spellings.one_spelling }
