use Rattle.std.proofs.Common.{arith}
use Rattle.std.proofs.lemmas.Grind.{common_steps}
use Rattle.pl_table.proofs.tables.table.token_in.Goals as goal

pub returns-then-principal-id : goal.returns-then-principal-id
returns-then-principal-id c = grind (arith, common_steps)
