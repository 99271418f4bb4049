use Rattle.std.proofs.Common.{◌∙◌, ◌-◌, List, arith}
use Rattle.pl_table.specs.declared.tables.row.Row.{Row}
use Rattle.pl_table.specs.Requests.Ops.{op_number, all_ops}
use Rattle.pl_table.specs.Tables.Index.{askers, asker_of, can_be, places_from, places_by_op, lists_of}
use Rattle.pl_table.specs.Requests.Asking.{asked_by}
use Rattle.pl_table.proofs.Acts.{op_at}
use Rattle.pl_table.proofs.Listed.{mapped_within, mapped_read, places-of_request}
use Rattle.pl_table.proofs.tables.index.RowIndex.listed.Goals as goal

pub index-requires-2 : goal.index-requires-2
index-requires-2 c =
    let rows = c.requires.index.0 in
    let is = c.requires.index.1 in
    let asker = asker_of c.args.asking.now.principal c.args.self.now.names.items in
    let mine = mapped_read lists_of (places_by_op rows) c.args.self.now.by_asker.items (askers c.args.self.now.names.items) c.place_of-place.result c.index.result.now asker is.lists (rw c.deref.ensures.value at c.place_of-place.ensures.value) c.index.ensures in
    let lt = mapped_within (λ list. list.items) (λ op. places_from 0 (can_be asker op) rows) c.index.result.now.by_op.items all_ops (op_number c.args.asking.now.op - 1) c.args.asking.now.op mine (op_at c.args.asking.now.op) in
    rw (c.from.ensures, c.number.ensures.value) (omega (arith, lt, c.index.result.now.by_op.ok))

pub returns : goal.returns
returns c = record {
  value = λ (rows : List Row) is.
      let asker = asker_of c.args.asking.now.principal c.args.self.now.names.items in
      let op = c.args.asking.now.op in
      let mine = mapped_read lists_of (places_by_op rows) c.args.self.now.by_asker.items (askers c.args.self.now.names.items) c.place_of-place.result c.index.result.now asker is.lists (rw c.deref.ensures.value at c.place_of-place.ensures.value) c.index.ensures in
      let list = mapped_read (λ list. list.items) (λ op. places_from 0 (can_be asker op) rows) c.index.result.now.by_op.items all_ops (op_number op - 1) c.index-2.result.now op mine (op_at op) (rw (c.from.ensures, c.number.ensures.value) at c.index-2.ensures) in
      c.deref-2.ensures.value ∙ places-of_request c.args.self.now.names.items rows (asked_by c.args.asking.now) c.index-2.result.now.items is.named list;
}
