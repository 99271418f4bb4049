use Rattle.std.proofs.Common.{arith}
use Rattle.std.proofs.lemmas.Grind.{common_steps}
use Rattle.pl_table.proofs.tables.text.table_text.reading_of.Goals as goal

pub returns-in-Err-Malformed-clause-ok : goal.returns-in-Err-Malformed-clause-ok
returns-in-Err-Malformed-clause-ok c = grind (arith, common_steps)
