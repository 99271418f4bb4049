-- A text that reads as a table changes nothing of the state but the table; nor does one that does not.
use Rattle.std.proofs.Common.{◌≡◌, Result, Ok, Err, refl}
use Rattle.pl_pages.specs.State.{FitsLog}
use Rattle.pl_table.specs.declared.tables.fault.TableFault.{TableFault}
use Rattle.pl_table.specs.Tables.Table.{WrittenTable}
use Rattle.pl_core.specs.declared.state.ByTable.{ByTable}
use Rattle.pl_core.specs.declared.state.State.{State}
use Rattle.std.specs.Result.{result_ok}
use Rattle.pl_core.specs.History.{effect_of_reading}
use Rattle.pl_core.specs.Epoch.{table_set}
use Rattle.pl_core.specs.Transition.{state_after, PagesFollow, applied_then}

pub read_changes_nothing : (r : Result WrittenTable TableFault) (state : State) (by : ByTable) → state_after (effect_of_reading r) state by ≡ state
read_changes_nothing (Ok t) state by = refl
read_changes_nothing (Err f) state by = refl

pub read_follows : (r : Result WrittenTable TableFault) (state : State) → FitsLog state.pages state.log.hardened → PagesFollow state (λ p. applied_then (effect_of_reading r) state p) state.pages
read_follows (Ok t) state fits = record { fits = fits; applied_are = λ p. refl; chunks = refl }
read_follows (Err f) state fits = record { fits = fits; applied_are = λ p. refl; chunks = refl }

pub read_sets : (r : Result WrittenTable TableFault) → result_ok r ≡ table_set (effect_of_reading r)
read_sets (Ok t) = refl
read_sets (Err f) = refl
