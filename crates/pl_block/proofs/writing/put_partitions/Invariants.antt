use Rattle.std.proofs.Common.{◌≡◌, ◌≤◌, ◌+◌, ◌*◌, ◌++◌, take}
use Rattle.std.specs.Int.{w16, to_be_bytes}
use Rattle.std.specs.List.{flat_map}
use Rattle.pl_block.specs.Spare.{spare}
use Rattle.pl_block.proofs.writing.put_partitions.Given as goal

abbrev pub invariant-loop-partition : goal.invariant-loop-partition
invariant-loop-partition l = record {
  put : l.out.items ≡ l.fn.out.items ++ flat_map (to_be_bytes w16) (take l.partition-index l.partitions);
  spare : spare l.fn.out ≤ spare l.out + 2 * l.partition-index;
}
