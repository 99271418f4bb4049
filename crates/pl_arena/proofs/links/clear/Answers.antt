use Rattle.std.proofs.Common.{refl}
use Rattle.pl_arena.specs.Arena.{zeros}
use Rattle.pl_arena.proofs.links.clear.Goals as goal

pub returns : goal.returns
unfolding zeros
returns c = record { value = refl }
