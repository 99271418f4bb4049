use Rattle.std.proofs.Common.{All}
use Rattle.pl_decide.specs.Agreement.{IsOfRows}
use Rattle.pl_decide.proofs.Cached.{Stays}
use Rattle.pl_decide.proofs.cache.are_of_rows.Given as goal

abbrev pub invariant-loop-key : goal.invariant-loop-key
invariant-loop-key l = Stays l.verdicts.entries l.key-iterator
    × (All (IsOfRows l.table.rows) l.key-iterator → All (IsOfRows l.table.rows) l.verdicts.entries)
