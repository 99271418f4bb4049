use Rattle.std.proofs.Common.{arith}
use Rattle.std.proofs.lemmas.Grind.{common_steps}
use Rattle.pl_conn.proofs.page_server.Worked.learn.Goals as goal

pub returns-in-Denied-clause-epoch : goal.returns-in-Denied-clause-epoch
returns-in-Denied-clause-epoch c = grind (arith, common_steps)
