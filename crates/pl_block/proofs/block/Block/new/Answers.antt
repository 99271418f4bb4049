use Rattle.std.proofs.Common.{Err}
use Rattle.std.proofs.lemmas.Result.{err_from_is_err_and}
use Rattle.pl_block.proofs.RecordFaults.{is_made, made_tested}
use Rattle.pl_block.proofs.block.Block.new.Goals as goal

pub returns-in_err-parts_of-clause-only : goal.returns-in_err-parts_of-clause-only
returns-in_err-parts_of-clause-only c =
    let p = err_from_is_err_and c.from_residual.result c.from_residual.ensures.1 in
    λ is_block. rw (p.1, p.2) (is_made c.args.lsn c.args.records.items (Err c.in_err-parts_of.field-0.0) c.in_err-parts_of.ensures.exact is_block)

pub returns-clause-no_memory : goal.returns-clause-no_memory
returns-clause-no_memory c = λ _. made_tested c.args.lsn c.args.records.items _ c.in_ok-parts_of.ensures.exact

pub returns-clause-only : goal.returns-clause-only
returns-clause-only c = λ is_block. is_made c.args.lsn c.args.records.items c.of_parts.result (rw c.in_ok-parts_of.ensures.exact c.of_parts.ensures.exact) is_block
