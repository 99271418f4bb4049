use Rattle.std.proofs.Common.{arith}
use Rattle.std.proofs.lemmas.Grind.{common_steps}
use Rattle.pl_pages.proofs.changes.redo.Goals as goal

pub returns-in-Put : goal.returns-in-Put
returns-in-Put c = grind (arith, common_steps)
