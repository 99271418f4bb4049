-- Why a text is not a table: the code of each fault.
use Rattle.std.specs.Prelude.{ℕ, Result, Ok, Err}
use Rattle.pl_block.specs.declared.fault.Failed.{Failed}
use Rattle.pl_block.specs.declared.fault.Failed.TheVariants.{Malformed}
use Rattle.pl_table.specs.declared.tables.fault.TableFault.{TableFault}
use Rattle.pl_table.specs.declared.tables.fault.TableFault.TheVariants.{NoDocument, UnknownKey, PrincipalCount, RowCount, PrincipalKeys, PrincipalId, PrincipalToken, RepeatedId, RowKeys, RowWord, RowNumber, NoOperator, BadZone}

-- the code of a fault
abbrev pub fault_number : TableFault → ℕ
fault_number NoDocument = 1
fault_number UnknownKey = 2
fault_number PrincipalCount = 3
fault_number RowCount = 4
fault_number PrincipalKeys = 5
fault_number PrincipalId = 6
fault_number PrincipalToken = 7
fault_number RepeatedId = 8
fault_number RowKeys = 9
fault_number RowWord = 10
fault_number RowNumber = 11
fault_number NoOperator = 12
fault_number BadZone = 13

-- what a reader returns that reads so, if no allocation fails
abbrev pub returned : {X : Type 0} → Result X TableFault → Result X (Failed TableFault)
returned (Ok x) = Ok x
returned (Err f) = Err (Malformed f)
