use Rattle.std.proofs.Common.{◌∙◌, ◌++◌, ◌∷◌, []}
use Rattle.pl_arena.specs.Arena.{zeros}
use Rattle.pl_arena.proofs.chunk.Chunk.push_zeros.Goals as goal

pub returns : goal.returns
unfolding zeros
returns c = record { value = c.push.ensures.value.items ∙ (λ j. c.self.view_is j ++ zeros ∷ []) }
