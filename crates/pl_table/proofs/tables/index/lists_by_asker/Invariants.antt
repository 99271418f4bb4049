use Rattle.std.proofs.Common.{◌≡◌, ◌++◌, map, drop}
use Rattle.pl_table.specs.Tables.Index.{askers, lists_of, places_by_op}
use Rattle.pl_table.proofs.tables.index.lists_by_asker.Given as goal

abbrev pub invariant-loop-name : goal.invariant-loop-name
invariant-loop-name l = map lists_of l.lists.items ++ map (places_by_op l.rows) (askers (drop l.name-index l.names)) ≡ map (places_by_op l.rows) (askers l.names)
