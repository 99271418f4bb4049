use Rattle.std.proofs.lemmas.Result.{err_from_is_err_and}
use Rattle.pl_block.proofs.Fronts.{records_go_on, records_end, records_are_done}
use Rattle.pl_block.proofs.reading.take_each.Goals as goal

pub returns-in_err-entry : goal.returns-in_err-entry
returns-in_err-entry c =
    let p = err_from_is_err_and c.from_residual-in_err-entry.result c.from_residual-in_err-entry.ensures.1 in
    record { exact = rw (p.1, p.2) (records_end c.in_err-entry.field-0.0 c.loop.records.items c.args.count c.loop.counter c.loop.rest _ c.loop-test.true c.in_err-entry.ensures.exact c.loop.invariant) }

pub loop-preserved : goal.loop-preserved
loop-preserved c =
    rw c.in_ok-push.ensures.items (records_go_on c.loop.records.items c.args.count c.loop.counter c.loop.rest c.in_ok-entry.entry c.take_record.new.rest _ c.loop-test.true c.in_ok-entry.ensures.exact c.loop.invariant)

pub returns : goal.returns
returns c = record { exact = records_are_done c.loop.records.items c.args.count c.loop.counter c.loop.rest _ c.loop-test.false c.loop.invariant }
