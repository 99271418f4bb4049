use Rattle.std.proofs.Common.{◌≤◌, length, sym, subst, arith}
use Rattle.std.proofs.lemmas.List.Folds.{length-flat_map-take}
use Rattle.std.proofs.lemmas.Result.{err_from_is_err_and}
use Rattle.pl_block.specs.declared.record.Record.{Record}
use Rattle.pl_block.specs.Bounds.{longest_block}
use Rattle.pl_block.specs.Spelling.{record_spelling}
use Rattle.pl_block.proofs.writing.put_records.Goals as goal

pub put_record-requires : goal.put_record-requires
put_record-requires c =
    let within = length-flat_map-take record_spelling c.args.records.now c.loop-entry.entry-index c.entry-item.result c.loop-entry-test.true in
    subst (λ (r : Record). length (record_spelling r) ≤ longest_block) (sym c.entry-item.is) (omega (arith, within, c.requires.fits))

pub returns-in_err-put_record-clause-spare : goal.returns-in_err-put_record-clause-spare
returns-in_err-put_record-clause-spare c =
    let p = err_from_is_err_and c.from_residual-in_err-put_record.result c.from_residual-in_err-put_record.ensures.1 in
    let within = rw (← c.entry-item.is) at (length-flat_map-take record_spelling c.args.records.now c.loop-entry.entry-index c.entry-item.result c.loop-entry-test.true) in
    let before = c.loop-entry.invariant.spare in
    let lacked = c.in_err-put_record.ensures.spare in
    rw p.1 (omega (arith, within, before, lacked))
