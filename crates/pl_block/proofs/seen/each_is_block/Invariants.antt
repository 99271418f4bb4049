use Rattle.std.proofs.Common.{take}
use Rattle.std.specs.List.{AllByRecursion}
use Rattle.pl_block.specs.Spelling.{IsBlock}
use Rattle.pl_block.proofs.seen.each_is_block.Given as goal

abbrev pub invariant-loop-block : goal.invariant-loop-block
invariant-loop-block l = AllByRecursion IsBlock (take l.block-index l.blocks)
