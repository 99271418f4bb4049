use Rattle.std.proofs.Common.{arith}
use Rattle.std.proofs.lemmas.Grind.{common_steps}
use Rattle.pl_command.proofs.arguments.asked.Goals as goal

pub returns-in_ok-from_str-in-Err-2-clause-no_memory : goal.returns-in_ok-from_str-in-Err-2-clause-no_memory
returns-in_ok-from_str-in-Err-2-clause-no_memory c = grind (arith, common_steps)
