use Rattle.std.proofs.Common.{arith}
use Rattle.std.proofs.lemmas.Grind.{common_steps}
use Rattle.pl_wire.proofs.frame_in_place.is_cut.Goals as goal

pub returns-then-wanted-le-LONGEST_REQUEST-clause-fits : goal.returns-then-wanted-le-LONGEST_REQUEST-clause-fits
returns-then-wanted-le-LONGEST_REQUEST-clause-fits c = grind (arith, common_steps)
