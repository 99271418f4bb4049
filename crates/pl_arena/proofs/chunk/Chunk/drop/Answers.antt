use Rattle.std.proofs.Common.{arith}
use Rattle.std.proofs.lemmas.Grind.{common_steps}
use Rattle.pl_arena.proofs.chunk.Chunk.drop.Goals as goal

pub deallocate-requires : goal.deallocate-requires
deallocate-requires c = grind (arith, common_steps)
