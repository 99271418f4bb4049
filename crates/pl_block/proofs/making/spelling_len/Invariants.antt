use Rattle.std.proofs.Common.{◌≡◌, ◌+◌, ◌*◌, length, take}
use Rattle.std.specs.List.{flat_map}
use Rattle.pl_block.specs.Spelling.{record_spelling}
use Rattle.pl_block.proofs.making.spelling_len.Given as goal

abbrev pub invariant-loop-entry : goal.invariant-loop-entry
invariant-loop-entry l = l.len ≡ 12 + 2 * length l.partitions + length (flat_map record_spelling (take l.entry-index l.records))
