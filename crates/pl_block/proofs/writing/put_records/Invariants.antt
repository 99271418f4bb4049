use Rattle.std.proofs.Common.{◌≡◌, ◌≤◌, ◌+◌, ◌++◌, length, take}
use Rattle.std.specs.Int.{w16, to_be_bytes}
use Rattle.std.specs.List.{flat_map}
use Rattle.pl_block.specs.Spare.{spare}
use Rattle.pl_block.specs.Spelling.{record_spelling}
use Rattle.pl_block.proofs.writing.put_records.Given as goal

abbrev pub invariant-loop-entry : goal.invariant-loop-entry
invariant-loop-entry l = record {
  put : l.out.items ≡ l.fn.out.items ++ (to_be_bytes w16 (length l.records) ++ flat_map record_spelling (take l.entry-index l.records));
  spare : spare l.fn.out ≤ spare l.out + (2 + length (flat_map record_spelling (take l.entry-index l.records)));
}
