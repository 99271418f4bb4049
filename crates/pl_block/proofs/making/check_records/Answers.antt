use Rattle.std.proofs.lemmas.Result.{err_from_is_err_and}
use Rattle.pl_block.proofs.RecordFaults.{records_fail, records_pass, records_are_sound, records_more}
use Rattle.pl_block.proofs.making.check_records.Goals as goal

pub returns-in_err-check_record-clause-value : goal.returns-in_err-check_record-clause-value
returns-in_err-check_record-clause-value c =
    let p = err_from_is_err_and c.from_residual.result c.from_residual.ensures.1 in
    rw (p.1, p.2) (records_fail c.args.records.now c.loop-entry.entry-index c.entry-item.result c.in_err-check_record.field-0.0 c.loop-entry-test.true c.entry-item.is c.in_err-check_record.ensures.value c.loop-entry.invariant.rest)

pub loop-entry-preserved : goal.loop-entry-preserved
loop-entry-preserved c = record {
  rest = records_pass c.args.records.now c.loop-entry.entry-index c.entry-item.result c.in_ok-check_record.field-0 c.loop-entry-test.true c.entry-item.is c.in_ok-check_record.ensures.value c.loop-entry.invariant.rest;
  valid = records_more c.args.records.now c.loop-entry.entry-index c.entry-item.result c.loop-entry-test.true c.entry-item.is c.in_ok-check_record.ensures.valid c.loop-entry.invariant.valid;
}

pub returns-clause-value : goal.returns-clause-value
returns-clause-value c = records_are_sound c.args.records.now c.loop-entry.entry-index c.loop-entry-test.false c.loop-entry.invariant.rest
