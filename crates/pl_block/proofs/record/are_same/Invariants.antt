use Rattle.std.proofs.Common.{◌≡◌, length}
use Rattle.std.specs.Cmp.Lexicographic.{pointwise}
use Rattle.pl_block.specs.Block.{same_record}
use Rattle.pl_block.proofs.record.are_same.Given as goal

abbrev pub invariant-loop-entry : goal.invariant-loop-entry
invariant-loop-entry l =
    let ones = l.entry-iterator.a.rest.now in
    let others = l.entry-iterator.b.rest.now in
    (length ones ≡ length others) × (pointwise same_record ones others ≡ pointwise same_record l.fn.one l.fn.other)
