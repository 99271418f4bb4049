use Rattle.std.proofs.Common.{arith, rules}
use Rattle.std.proofs.lemmas.Grind.{common_steps}
use Rattle.pl_wire.proofs.frame_in_place.body_in.Goals as goal

pub returns-then-len-gt-LONGEST_REQUEST-clause-none : goal.returns-then-len-gt-LONGEST_REQUEST-clause-none
returns-then-len-gt-LONGEST_REQUEST-clause-none c = grind (arith, common_steps)

pub returns-clause-some : goal.returns-clause-some
returns-clause-some c = search rules
