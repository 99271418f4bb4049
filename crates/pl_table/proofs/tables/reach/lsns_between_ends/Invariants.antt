use Rattle.std.proofs.Common.{◌≤◌, ℕ, All, take}
use Rattle.pl_table.specs.Tables.Reach.{NoEndBetween}
use Rattle.pl_table.proofs.tables.reach.lsns_between_ends.Given as goal

abbrev pub invariant-loop-row : goal.invariant-loop-row
invariant-loop-row l = (l.lsns.from ≤ l.lsn) × (l.lsn ≤ l.lsns.to) × ((other : ℕ) → l.lsns.from ≤ other → other ≤ l.lsns.to → All (λ row. NoEndBetween l.lsn other row.through) (take l.row-index l.rows))
