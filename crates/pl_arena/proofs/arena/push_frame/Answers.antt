use Rattle.std.proofs.Common.{arith}
use Rattle.std.proofs.lemmas.Grind.{common_steps}
use Rattle.pl_arena.proofs.arena.push_frame.Goals as goal

pub returns-then-used-max_chunks-clause-full : goal.returns-then-used-max_chunks-clause-full
returns-then-used-max_chunks-clause-full c = grind (arith, common_steps)
