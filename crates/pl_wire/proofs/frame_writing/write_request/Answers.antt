use Rattle.std.proofs.Common.{arith}
use Rattle.std.proofs.lemmas.Grind.{common_steps}
use Rattle.pl_wire.proofs.frame_writing.write_request.Goals as goal

pub returns : goal.returns
returns g c = grind (arith, common_steps)
