use Rattle.std.proofs.Common.{rules}
use Rattle.pl_program.proofs.operator.file_after.Goals as goal

pub returns-then-eq-clause-some : goal.returns-then-eq-clause-some
returns-then-eq-clause-some c = search rules
