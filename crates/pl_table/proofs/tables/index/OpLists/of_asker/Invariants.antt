use Rattle.std.proofs.Common.{◌≡◌, map, take}
use Rattle.pl_table.specs.Requests.Ops.{all_ops}
use Rattle.pl_table.specs.Tables.Index.{can_be, places_from}
use Rattle.pl_table.proofs.tables.index.OpLists.of_asker.Given as goal

abbrev pub invariant-loop-op : goal.invariant-loop-op
invariant-loop-op l = map (λ list. list.items) l.by_op.items ≡ map (λ op. places_from 0 (can_be l.asker op) l.rows) (take l.op-index all_ops)
