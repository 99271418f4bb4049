use Rattle.std.proofs.Common.{arith}
use Rattle.std.proofs.lemmas.List.Folds.{length-flat_map-take}
use Rattle.pl_block.specs.Spelling.{record_spelling}
use Rattle.pl_block.proofs.making.spelling_len.Goals as goal

pub returns-then-len-gt-LONGEST_BLOCK-clause-long : goal.returns-then-len-gt-LONGEST_BLOCK-clause-long
returns-then-len-gt-LONGEST_BLOCK-clause-long c =
    let within = length-flat_map-take record_spelling c.args.records.now c.loop-entry.entry-index c.entry-item.result c.loop-entry-test.true in
    λ long. omega arith
