use Rattle.std.proofs.Common.{◌+◌, ◌*◌, length, arith}
use Rattle.std.proofs.Math.Facts.{Fits-of_lt}
use Rattle.std.proofs.lemmas.Result.{err_from_is_err_and}
use Rattle.pl_block.specs.Spelling.{block_spelling}
use Rattle.pl_block.proofs.Spellings.{counts, length-counted}
use Rattle.pl_block.proofs.Spare.{UsesSpare-then}
use Rattle.pl_block.proofs.writing.put_block.Goals as goal

pub overflow_cast-partitions : goal.overflow_cast-partitions
overflow_cast-partitions c = rw c.partitions-partitions.ensures.value (Fits-of_lt (counts c.args.block.now c.lsn.ensures.valid).0)

pub put_records-requires-clause-few : goal.put_records-requires-clause-few
put_records-requires-clause-few c = rw c.records-records.ensures.value (counts c.args.block.now c.lsn.ensures.valid).1

pub returns-in_err-put_partitions-clause-spare : goal.returns-in_err-put_partitions-clause-spare
returns-in_err-put_partitions-clause-spare c =
    let p = err_from_is_err_and c.from_residual-in_err-put_partitions.result c.from_residual-in_err-put_partitions.ensures.1 in
    let whole = length-counted c.args.block.now.lsn c.args.block.now.records _ _ c.partitions-partitions.ensures.value c.records-records.ensures.value in
    let number = c.in_ok-put_front.ensures.spare in
    let lacked = c.in_err-put_partitions.ensures.spare in
    rw p.1 (omega (arith, whole, number, lacked))

pub returns-clause-spare : goal.returns-clause-spare
returns-clause-spare c =
    let whole = length-counted c.args.block.now.lsn c.args.block.now.records _ _ c.partitions-partitions.ensures.value c.records-records.ensures.value in
    let number = c.in_ok-put_front.ensures.spare in
    let told = c.in_ok-put_partitions.ensures.spare in
    UsesSpare-then c.put_records.result c.args.out.now c.put_partitions.new.out c.put_records.new.out (10 + 2 * length c.partitions-partitions.result.now) _ (length (block_spelling c.args.block.now)) (omega (arith, number, told)) (omega (arith, whole)) c.put_records.ensures.spare
