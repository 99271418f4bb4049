use Rattle.std.proofs.Common.{◌≡◌, ap, ◌∙◌, sym, length, Ok}
use Rattle.std.proofs.lemmas.Result.{err_from_is_err_and}
use Rattle.pl_block.specs.Block.{touched}
use Rattle.pl_block.specs.Reading.{len_fault}
use Rattle.pl_block.specs.Spelling.{IsBlock, block_spelling}
use Rattle.pl_block.proofs.Spellings.{length-counted, lsn_fault-ok}
use Rattle.pl_block.proofs.RecordFaults.{len_fault-ok, len_fault-told, made, made_fails-length}
use Rattle.pl_block.proofs.making.parts_of.Goals.{In_ok-check_len}
use Rattle.pl_block.proofs.making.parts_of.Goals as goal

pub returns-in_err-check_len-clause-exact : goal.returns-in_err-check_len-clause-exact
returns-in_err-check_len-clause-exact c =
    let p = err_from_is_err_and c.from_residual-in_err-check_len.result c.from_residual-in_err-check_len.ensures.1 in
    let told = c.deref-3.ensures.value ∙ c.in_ok-partitions.ensures.ok ∙ ap touched c.deref-2.ensures.value in
    let counted = len_fault-told c.args.lsn c.args.records.items _ _ c.spelling_len-len.result told c.deref-4.ensures.value c.spelling_len-len.ensures.value c.spelling_len-len.ensures.long in
    rw (p.1, p.2) (made_fails-length c.in_err-check_len.field-0.0 c.args.lsn c.args.records.items c.in_ok-check_lsn.field-0 c.in_ok-check_records.field-0 (sym c.in_ok-check_lsn.ensures.value) (sym (rw c.deref.ensures.value at c.in_ok-check_records.ensures.value)) (sym counted ∙ sym c.in_err-check_len.ensures.value))

-- the spelling passes the test of its length
short : (c : In_ok-check_len) → len_fault (length (block_spelling (record { lsn = c.args.lsn; records = c.args.records.items }))) ≡ Ok c.in_ok-check_len.field-0
short c =
    let told = c.deref-3.ensures.value ∙ c.in_ok-partitions.ensures.ok ∙ ap touched c.deref-2.ensures.value in
    let counted = len_fault-told c.args.lsn c.args.records.items _ _ c.spelling_len-len.result told c.deref-4.ensures.value c.spelling_len-len.ensures.value c.spelling_len-len.ensures.long in
    sym counted ∙ sym c.in_ok-check_len.ensures.value

pub invariant_of-result : goal.invariant_of-result
invariant_of-result c =
    let ranged = lsn_fault-ok c.args.lsn c.in_ok-check_lsn.field-0 (sym c.in_ok-check_lsn.ensures.value) in
    let is_block : IsBlock (record { lsn = c.args.lsn; records = c.args.records.items }) = record {
      positive = ranged.0;
      in_range = ranged.1;
      each = rw c.deref.ensures.value at c.in_ok-check_records.ensures.valid;
      short = len_fault-ok _ c.in_ok-check_len.field-0 (short c);
    } in
    let told = c.deref-3.ensures.value ∙ c.in_ok-partitions.ensures.ok ∙ ap touched c.deref-2.ensures.value in
    let whole = length-counted c.args.lsn c.args.records.items _ _ told c.deref-4.ensures.value in
    record { block = is_block; touched_by = c.in_ok-partitions.ensures.ok ∙ ap touched c.deref-2.ensures.value; counted = c.spelling_len-len.ensures.value (len_fault-ok c.spelling_len-len.result c.in_ok-check_len.field-0 (sym c.in_ok-check_len.ensures.value)) ∙ sym whole; spelled = tt }

pub returns-clause-exact : goal.returns-clause-exact
returns-clause-exact c =
    made c.args.lsn c.args.records.items c.in_ok-check_lsn.field-0 c.in_ok-check_records.field-0 c.in_ok-check_len.field-0 (sym c.in_ok-check_lsn.ensures.value) (sym (rw c.deref.ensures.value at c.in_ok-check_records.ensures.value)) (short c)
