-- The codes of the faults of a body.
use Rattle.std.specs.Prelude.{ℕ, ◌+◌}
use Rattle.pl_block.specs.Codes as blocks
use Rattle.pl_block.specs.declared.fault.Failed.{Failed}
use Rattle.pl_block.specs.declared.fault.Failed.TheVariants.{Malformed, NoMemory}
use Rattle.pl_block.specs.declared.fault.Fault.{Fault}
use Rattle.pl_wire.specs.declared.fault.WireFault.{WireFault}
use Rattle.pl_wire.specs.declared.fault.WireFault.TheVariants.{TooShort, UnknownRole, UnknownKind, EndsInField, BytesAfterEnd, OutOfRange, Block}

-- the code of a fault: a block's comes after the body's own
abbrev pub body_fault_code : WireFault → ℕ
body_fault_code TooShort = 1
body_fault_code UnknownRole = 2
body_fault_code UnknownKind = 3
body_fault_code EndsInField = 4
body_fault_code BytesAfterEnd = 5
body_fault_code OutOfRange = 6
body_fault_code (Block fault) = blocks.code_of fault + 6

-- why a write could not be read, if its block could not
abbrev pub of_block : Failed Fault → Failed WireFault
of_block (Malformed fault) = Malformed (Block fault)
of_block NoMemory = NoMemory
