-- What a database begins from: the text of a table, a primary, and the limit of its audit list.
use Rattle.std.specs.Prelude.{◌≡◌, ◌<◌, ℕ, ⊤, List, [], length, Option, Some, None, Result, Ok, Err}
use Rattle.pl_table.specs.Tables.Table.{WrittenTable, token_of}
use Rattle.pl_table.specs.Tables.TableText.{table_reading}
use Rattle.pl_table.specs.declared.tables.fault.TableFault.{TableFault}
use Rattle.pl_block.specs.declared.fault.Failed.{Failed}
use Rattle.pl_block.specs.declared.fault.Failed.TheVariants as texts
use Rattle.pl_core.specs.History.{Start, History}
use Rattle.pl_core.specs.declared.db.DbFault.{DbFault}
use Rattle.pl_core.specs.declared.db.DbFault.TheVariants as dbs
use Rattle.pl_play.specs.declared.start.StartFault.{StartFault}
use Rattle.pl_play.specs.declared.start.StartFault.TheVariants as faults
use Rattle.pl_play.specs.declared.start.FileFault.{FileFault}
use Rattle.pl_play.specs.declared.start.FileFault.TheVariants as files

-- how many bytes the text of a table may have
abbrev pub longest_table_text : ℕ
longest_table_text = 65506

-- the text is all that the reader has, if its bytes are known
abbrev pub IsWhole : Option (List ℕ) → List ℕ → Type 0
IsWhole None text = ⊤
IsWhole (Some bytes) text = text ≡ bytes

-- known bytes are more than a text may have
abbrev pub IsTooLongText : Option (List ℕ) → Type 0
IsTooLongText None = ⊤
IsTooLongText (Some bytes) = longest_table_text < length bytes

-- a table and its first primary, and an audit list of at most this many entries
abbrev pub start_with : WrittenTable → ℕ → ℕ → Start
start_with table primary audit =
    record { table = table; primary = primary; limits = record { audit = audit; chunks = 16 } }

-- nothing was asked yet
abbrev pub new_history : WrittenTable → ℕ → ℕ → History
new_history table primary audit = record { start = start_with table primary audit; entries = [] }

-- by the token that the table lists for the primary, if it lists one
abbrev pub listed_start : WrittenTable → ℕ → ℕ → Option (List ℕ) → Result History StartFault
listed_start table primary audit None = Err faults.NotListed
listed_start table primary audit (Some token) = Ok (new_history table primary audit)

-- by what the text reads as
abbrev pub read_start : Result WrittenTable TableFault → ℕ → ℕ → Result History StartFault
read_start (Err fault) primary audit = Err (faults.Table fault)
read_start (Ok table) primary audit =
    listed_start table primary audit (token_of primary table.principals)

-- the history that a database begins with, of the text of its table, its primary and the limit of its
-- audit list, or its first fault
abbrev pub start_of : List ℕ → ℕ → ℕ → Result History StartFault
start_of text primary audit = read_start (table_reading text) primary audit

-- how many entries the audit list of `play` holds
abbrev pub audit_of_play : ℕ
audit_of_play = 65536

-- the fault of the start if a file gave no text
abbrev pub start_fault_of_file : FileFault → StartFault
start_fault_of_file files.Read = faults.File
start_fault_of_file files.Long = faults.File
start_fault_of_file files.NoMemory = faults.NoMemory

-- the fault of the start if the text gave no table
abbrev pub start_fault_of_text : Failed TableFault → StartFault
start_fault_of_text (texts.Malformed fault) = faults.Table fault
start_fault_of_text texts.NoMemory = faults.NoMemory

-- the fault of the start if the table gave no database
abbrev pub start_fault_of_db : DbFault → StartFault
start_fault_of_db dbs.NotListed = faults.NotListed
start_fault_of_db dbs.NoMemory = faults.NoMemory
