use Rattle.std.proofs.Common.{◌≡◌, ◌++◌, drop}
use Rattle.pl_table.specs.Tables.Index.{can_be, places_from}
use Rattle.pl_table.proofs.tables.index.places_in.Given as goal

abbrev pub invariant-loop-place : goal.invariant-loop-place
invariant-loop-place l = l.list.items ++ places_from l.place (can_be l.asker l.op) (drop l.place l.rows) ≡ places_from 0 (can_be l.asker l.op) l.rows
