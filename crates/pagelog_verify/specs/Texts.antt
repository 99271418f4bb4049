-- Faults: their exit statuses and texts, and of which cause they are.
use Rattle.std.specs.Prelude.{ℕ, List, ◌++◌, codes, decimal}
use Rattle.pl_block.specs.declared.fault.Failed.{Failed}
use Rattle.pl_block.specs.declared.fault.Failed.TheVariants as failures
use Rattle.pl_core.specs.declared.db.DbFault.{DbFault}
use Rattle.pl_core.specs.declared.db.DbFault.TheVariants as dbs
use Rattle.pl_play.specs.declared.lines.InputFault.{InputFault}
use Rattle.pl_play.specs.declared.lines.InputFault.TheVariants as inputs
use Rattle.pl_table.specs.Tables.Fault.{fault_number}
use Rattle.pl_table.specs.declared.tables.fault.TableFault.{TableFault}
use Rattle.pl_wire.specs.Codes.{body_fault_code}
use Rattle.pagelog_verify.specs.declared.fault.Fault.{Fault}
use Rattle.pagelog_verify.specs.declared.fault.Fault.TheVariants as faults

-- the exit status
abbrev pub fault_status : Fault → ℕ
fault_status faults.TableFile = 3
fault_status (faults.Table fault) = 4
fault_status faults.NotListed = 5
fault_status faults.TrailFile = 6
fault_status (faults.Long line) = 7
fault_status (faults.Text line) = 8
fault_status (faults.Item line fault) = 9
fault_status faults.NoMemory = 10
fault_status faults.Write = 11

-- the text, after its first word
abbrev pub fault_text : Fault → List ℕ
fault_text faults.TableFile = codes "table file"
fault_text (faults.Table fault) = codes "table " ++ decimal (fault_number fault)
fault_text faults.NotListed = codes "not listed"
fault_text faults.TrailFile = codes "trail file"
fault_text (faults.Long line) = codes "trail line " ++ (decimal line ++ codes " is too long")
fault_text (faults.Text line) = codes "trail line " ++ (decimal line ++ codes " is no hexadecimal text")
fault_text (faults.Item line fault) = codes "trail line " ++ (decimal line ++ (codes " has fault " ++ decimal (body_fault_code fault)))
fault_text faults.NoMemory = codes "no memory"
fault_text faults.Write = codes "write"

-- that of a text that is not read as a table
abbrev pub fault_of_text : Failed TableFault → Fault
fault_of_text (failures.Malformed fault) = faults.Table fault
fault_of_text failures.NoMemory = faults.NoMemory

-- that of a database that does not begin
abbrev pub fault_of_db : DbFault → Fault
fault_of_db dbs.NotListed = faults.NotListed
fault_of_db dbs.NoMemory = faults.NoMemory

-- that of the line of this number, if it is not taken
abbrev pub fault_of_input : ℕ → InputFault → Fault
fault_of_input number inputs.Read = faults.TrailFile
fault_of_input number inputs.NoMemory = faults.NoMemory
fault_of_input number inputs.Long = faults.Long number
