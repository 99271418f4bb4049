use Rattle.pl_arena.specs.Free.{link}
use Rattle.pl_arena.proofs.links.link_of.Goals as goal

pub returns : goal.returns
unfolding link
returns c = record { value = c.from_le_bytes.ensures }
