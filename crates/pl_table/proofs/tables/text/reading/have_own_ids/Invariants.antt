use Rattle.std.proofs.Common.{◌≡◌, length}
use Rattle.pl_table.specs.Tables.TableText.{have_own_ids}
use Rattle.pl_table.proofs.tables.text.reading.have_own_ids.Given as goal

abbrev pub invariant-loop-first : goal.invariant-loop-first
invariant-loop-first l = have_own_ids l.rest ≡ have_own_ids l.principals

abbrev pub decreases-loop-first : goal.decreases-loop-first
decreases-loop-first l = length l.rest
