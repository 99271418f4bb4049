use Rattle.std.proofs.Common.{arith}
use Rattle.std.proofs.lemmas.Result.{err_from_is_err_and}
use Rattle.pl_block.proofs.Fronts.{number_is, rising_cut, rising_falls, rising_goes_on, rising_is_done}
use Rattle.pl_block.proofs.reading.take_rising.Goals as goal

pub returns-in_err-partition : goal.returns-in_err-partition
returns-in_err-partition c =
    let p = err_from_is_err_and c.from_residual.result c.from_residual.ensures.1 in
    record { exact = rw (p.1, p.2) (rising_cut c.loop.partitions.items c.args.count c.loop.counter c.loop.low c.loop.rest _ c.loop-test.true c.in_err-partition.ensures.rest.0 c.loop.invariant) }

pub returns-then-from-low : goal.returns-then-from-low
returns-then-from-low c =
    let read = number_is c.loop.rest c.in_ok-partition.partition c.try_get_u16.new.self c.in_ok-partition.ensures.rest.0 c.in_ok-partition.ensures.value c.in_ok-partition.ensures.rest.1 in
    record { exact = rising_falls c.loop.partitions.items c.args.count c.loop.counter c.loop.low c.loop.rest c.in_ok-partition.partition c.try_get_u16.new.self _ c.loop-test.true read (omega arith) c.loop.invariant }

pub loop-preserved : goal.loop-preserved
loop-preserved c =
    let read = number_is c.loop.rest c.in_ok-partition.partition c.try_get_u16.new.self c.in_ok-partition.ensures.rest.0 c.in_ok-partition.ensures.value c.in_ok-partition.ensures.rest.1 in
    rw (c.in_ok-push.ensures.items, c.from-low.ensures) (rising_goes_on c.loop.partitions.items c.args.count c.loop.counter c.loop.low c.loop.rest c.in_ok-partition.partition c.try_get_u16.new.self _ c.loop-test.true read (omega arith) c.loop.invariant)

pub returns : goal.returns
returns c = record { exact = rising_is_done c.loop.partitions.items c.args.count c.loop.counter c.loop.low c.loop.rest _ c.loop-test.false c.loop.invariant }
