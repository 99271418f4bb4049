-- The texts of faults on standard error, after their first word.
use Rattle.std.specs.Prelude.{ℕ, List, ◌++◌, codes, decimal}
use Rattle.pl_table.specs.Tables.Fault.{fault_number}
use Rattle.pl_play.specs.declared.start.StartFault.{StartFault}
use Rattle.pl_play.specs.declared.start.StartFault.TheVariants as starts
use Rattle.pl_play.specs.declared.fault.PlayFault.{PlayFault}
use Rattle.pl_play.specs.declared.fault.PlayFault.TheVariants as faults

-- the text of a fault of the start
abbrev pub start_fault_text : StartFault → List ℕ
start_fault_text starts.File = codes "file"
start_fault_text (starts.Table fault) = codes "table " ++ decimal (fault_number fault)
start_fault_text starts.NotListed = codes "not listed"
start_fault_text starts.NoMemory = codes "no memory"

-- the text of a fault of `play`
abbrev pub fault_text : PlayFault → List ℕ
fault_text faults.Read = codes "read"
fault_text faults.Write = codes "write"
fault_text faults.NoMemory = codes "no memory"
fault_text (faults.Text line) = codes "line " ++ (decimal line ++ codes " is no hexadecimal text")
fault_text (faults.Long line) = codes "line " ++ (decimal line ++ codes " is too long")
