-- A record is one in one way at most. So pages fit their log in one way at most, as a ghost field asks.
use Rattle.std.specs.Prelude.{◌+◌, ◌^◌, ◌<◌, ◌≤◌, length}
use Rattle.std.specs.Coded.{le_prop}
use mathlib.Core.HLevel.{×₃_prop}
use Rattle.pl_block.specs.Block.{IsRecord}
use Rattle.pl_block.specs.Bounds.{page_size}
use Rattle.pl_block.specs.declared.record.Record.{Record}
use Rattle.pl_block.specs.declared.record.Record.TheVariants.{Put, Zero}

pub is_record-prop : (change : Record) → IsProp (IsRecord change)
is_record-prop (Put page offset bytes) =
    let number : IsProp (page < 2 ^ 32) = le_prop in
    let some : IsProp (0 < length bytes) = le_prop in
    let within : IsProp (offset + length bytes ≤ page_size) = le_prop in
    ×₃_prop number some within
is_record-prop (Zero page) = le_prop
