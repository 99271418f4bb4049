use Rattle.std.proofs.Common.{◌≡◌, ℕ, List, IfSome, ap, subst, length, ◌∙◌}
use Rattle.pl_block.specs.Few.{listed}
use Rattle.pl_block.specs.Laws.{AreBytes}
use Rattle.pl_block.proofs.Spellings.{block_takes}
use Rattle.pl_block.proofs.reading.parts_in.Goals as goal

pub invariant_of-result : goal.invariant_of-result
invariant_of-result c =
    let fits : AreBytes c.args.input = subst AreBytes c.as_slice.ensures c.each_is_byte.ensures.value in
    let taken = block_takes c.args.input (record { lsn = c.in_ok-lsn.lsn; records = listed c.in_ok-lsn.records }) fits c.in_ok-lsn.ensures.exact in
    record { block = taken.0; touched_by = c.in_ok-lsn.ensures.valid; counted = c.len-len.ensures.value ∙ ap length taken.1; spelled = subst (λ (l : List ℕ). IfSome c.another-spelling.result (λ (b : List ℕ). b ≡ l)) taken.1 c.another-spelling.ensures.value }
