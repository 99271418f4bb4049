use Rattle.std.proofs.Common.{Err, subst}
use Rattle.std.proofs.lemmas.Result.{err_from_is_err_and}
use Rattle.pl_block.specs.Faults.{Returns}
use Rattle.pl_block.specs.Laws.{AreBytes}
use Rattle.pl_block.specs.Reading.{block_reading}
use Rattle.pl_block.proofs.Spellings.{is_found, is_only, reading_short}
use Rattle.pl_block.proofs.reading.decode.Goals as goal

pub returns-in_err-parts_in-clause-only : goal.returns-in_err-parts_in-clause-only
returns-in_err-parts_in-clause-only c =
    let p = err_from_is_err_and c.from_residual.result c.from_residual.ensures.1 in
    λ b is_block e. rw (p.1, p.2) (is_only c.args.input (Err c.in_err-parts_in.field-0.0) b c.in_err-parts_in.ensures.exact is_block e)

given : (c : goal.After-of_parts) → Returns c.of_parts.result (block_reading c.args.input)
given c = rw c.in_ok-parts_in.ensures.exact c.of_parts.ensures.exact

pub returns-clause-found : goal.returns-clause-found
returns-clause-found c = is_found c.args.input c.of_parts.result (subst AreBytes c.as_slice.ensures c.each_is_byte.ensures.value) (given c)

pub returns-clause-no_memory : goal.returns-clause-no_memory
returns-clause-no_memory c = λ _. reading_short c.args.input _ c.in_ok-parts_in.ensures.exact

pub returns-clause-only : goal.returns-clause-only
returns-clause-only c = λ b is_block e. is_only c.args.input c.of_parts.result b (given c) is_block e
