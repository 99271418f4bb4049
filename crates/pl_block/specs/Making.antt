-- Making a block of an LSN and records, with the first fault that is met.
use Rattle.std.specs.Prelude.{ℕ, List, [], ◌∷◌, length, Result, Ok}
use Rattle.pl_block.specs.declared.fault.Fault.{Fault}
use Rattle.pl_block.specs.declared.record.Record.{Record}
use Rattle.pl_block.specs.declared.record.Record.TheVariants.{Put, Zero}
use Rattle.pl_block.specs.Block.{Content}
use Rattle.pl_block.specs.Faults.{◌>>=◌}
use Rattle.pl_block.specs.Spelling.{block_spelling}
use Rattle.pl_block.specs.Reading.{lsn_fault, put_fault, len_fault}

-- the fault of one record, if any
abbrev pub record_fault : Record → Result (Unit {0}) Fault
record_fault (Put page offset bytes) = put_fault offset (length bytes)
record_fault (Zero page) = Ok tt

-- the fault of the first faulty record, if any
unfoldable pub records_fault : List Record → Result (Unit {0}) Fault
records_fault [] = Ok tt
records_fault (first ∷ others) = record_fault first >>= λ _. records_fault others

-- what an LSN and records make: a block, or the fault that is met first
unfoldable pub block_made : ℕ → List Record → Result Content Fault
block_made lsn records = lsn_fault lsn >>= λ _. records_fault records >>= λ _. len_fault (length (block_spelling (record { lsn = lsn; records = records }))) >>= λ _. Ok (record { lsn = lsn; records = records })
