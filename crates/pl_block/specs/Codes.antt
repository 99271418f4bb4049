-- The codes of the block format's faults.
use Rattle.std.specs.Prelude.{ℕ}
use Rattle.pl_block.specs.declared.fault.Fault.{Fault}
use Rattle.pl_block.specs.declared.fault.Fault.TheVariants.{EndsInField, NumberOutOfRange, PartitionNotAbove, UnknownKind, EmptyPut, PutPastPage, BytesAfterEnd, WrongAnnotations, TooLong}

-- the code of a fault
abbrev pub code_of : Fault → ℕ
code_of EndsInField = 1
code_of NumberOutOfRange = 2
code_of PartitionNotAbove = 3
code_of UnknownKind = 4
code_of EmptyPut = 5
code_of PutPastPage = 6
code_of BytesAfterEnd = 7
code_of WrongAnnotations = 8
code_of TooLong = 9
