-- What `serve` begins with, what it does for connections, and how it ends.
use Rattle.std.specs.Prelude.{◌≡◌, ◌==◌, ℕ, ◌+◌, ◌^◌, if◌then◌else◌, List, ◌++◌, length, map, Option, Some, None, Result, Ok, Err, codes, decimal}
use Rattle.pl_command.specs.declared.command_line.ServeNumbers.{ServeNumbers}
use Rattle.pl_table.specs.Tables.Table.{WrittenTable, token_of}
use Rattle.pl_table.specs.Tables.TableText.{table_reading}
use Rattle.pl_table.specs.declared.tables.fault.TableFault.{TableFault}
use Rattle.pl_core.specs.History.{History}
use Rattle.pl_desk.specs.Passes.{Knowledge, DeskOrigin}
use Rattle.pl_conn.specs.Desks.{AllMet, ArePassesOf, DesksCall, Met, all_fresh, fresh_at, terms_of_each}
use Rattle.pl_conn.specs.Serving.{ServesConnections}
use Rattle.pl_conn.specs.declared.page_server.PageServer.{PageServer}
use Rattle.pl_conn.specs.declared.service.Stop.{Stop}
use Rattle.pl_conn.specs.declared.service.Stop.TheVariants as stops
use Rattle.pl_play.specs.declared.start.StartFault.{StartFault}
use Rattle.pl_play.specs.declared.start.StartFault.TheVariants as starts
use Rattle.pl_program.specs.Pager.{HasPaged}
use Rattle.pl_program.specs.declared.run_fault.RunFault.{RunFault}
use Rattle.pl_program.specs.declared.run_fault.RunFault.TheVariants as faults
use Rattle.pl_program.specs.declared.tally.Tally.{Tally}

-- the token that a table lists for a principal, or that it lists none
abbrev pub listed_token : Option (List ℕ) → Result (List ℕ) StartFault
listed_token None = Err starts.NotListed
listed_token (Some token) = Ok token

-- by what the text reads as
abbrev pub read_token : Result WrittenTable TableFault → ℕ → Result (List ℕ) StartFault
read_token (Err fault) principal = Err (starts.Table fault)
read_token (Ok table) principal = listed_token (token_of principal table.principals)

-- the token of a principal, of the text of a table, or the first fault
abbrev pub token_for : List ℕ → ℕ → Result (List ℕ) StartFault
token_for text principal = read_token (table_reading text) principal

-- the page server of these numbers, with its token
abbrev pub pager_with : Result (List ℕ) StartFault → ServeNumbers → Result (Option PageServer) StartFault
pager_with (Err fault) numbers = Err fault
pager_with (Ok token) numbers = Ok (Some (record {
  principal = numbers.pager;
  token = token;
  partition = numbers.partition;
  rounds = numbers.rounds;
}))

-- the page server of a service with the table of this text: none of no rounds
abbrev pub pager_in : List ℕ → ServeNumbers → Result (Option PageServer) StartFault
pager_in text numbers =
    if numbers.rounds == 0 then Ok None else pager_with (token_for text numbers.pager) numbers

-- Each database got a desk, with a seat for each worker and one for the page server. The passes that come
-- back are those of workers, each after a list of calls, and the last one: the page server's after its rounds,
-- if there is a page server. These have met: the one that is left has seen what each of them had.
pub record ServesDatabases (dbs : List History) (workers connections : ℕ) (pager : Option PageServer) (accepted : ℕ) (stop : Stop) (met : Option Met) : Type 0 where
  pub desks : List DeskOrigin
  pub made : map (λ desk. desk.terms) desks ≡ terms_of_each (workers + 1) (2 ^ 62) dbs
  pub passes : List (List Knowledge)
  pub left : Option (List Knowledge)
  pub serves : ServesConnections DesksCall (ArePassesOf desks) (all_fresh desks workers) connections accepted stop passes
  pub paged : HasPaged pager (length dbs) (fresh_at desks (workers + 1)) left
  pub meets : AllMet desks passes left met

-- all is done if all connections were accepted
abbrev pub result_of_stop : Stop → Result (Unit {0}) RunFault
result_of_stop stops.Limit = Ok tt
result_of_stop stops.Accept = Err faults.Read
result_of_stop stops.Start = Err faults.Threads
result_of_stop stops.NoMemory = Err faults.NoMemory

-- the last line's numbers, unless the service failed
abbrev pub tally_unless : Result (Unit {0}) RunFault → ℕ → ℕ → Result Tally RunFault
tally_unless (Ok _) accepted ended = Ok (record { connections = accepted; faults = ended })
tally_unless (Err fault) accepted ended = Err fault

-- how a service ends: this many connections were accepted, this many of them ended in a fault, and it
-- stopped for this cause
abbrev pub tally_at : Stop → ℕ → ℕ → Result Tally RunFault
tally_at stop accepted ended = tally_unless (result_of_stop stop) accepted ended

-- the last line: how many connections were accepted, and how many of them ended in a fault
abbrev pub tally_text : ℕ → ℕ → List ℕ
tally_text connections faults =
    codes "connections " ++ (decimal connections ++ (codes " faults " ++ (decimal faults ++ codes "\n")))
