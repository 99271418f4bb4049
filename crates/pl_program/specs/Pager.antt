-- What a page server does at the databases of a service.
use Rattle.std.specs.Prelude.{◌≡◌, ℕ, ◌+◌, List, [], ◌∷◌, length, Option, Some, None, IfSome}
use Rattle.pl_desk.specs.Passes.{Knowledge, DeskOrigin}
use Rattle.pl_wire.specs.Answering.{Calls}
use Rattle.pl_conn.specs.Desks.{ArePassesOf, DesksCall}
use Rattle.pl_conn.specs.Materialising.{Works, advance_at}
use Rattle.pl_conn.specs.declared.page_server.Worked.{Worked}
use Rattle.pl_conn.specs.declared.page_server.PageServer.{PageServer}
use Rattle.pl_program.specs.declared.pager.Paging.{Paging}

-- the databases from this number on, each in turn: its partition is advanced in this many rounds, and each
-- begins with the pass that the one before it left
abbrev pub PagesEach : {P : Type 0} → Calls P → PageServer → ℕ → P → List Worked → P → Type 0
PagesEach calls server database before [] after = after ≡ before
PagesEach calls server database before (worked ∷ more) after = (now : _)
    × Works calls (advance_at server.principal server.token database server.partition) server.rounds before worked now
    × PagesEach calls server (database + 1) now more after

-- this many databases, from number 0 on
pub record Pages {P : Type 0} (calls : Calls P) (server : PageServer) (databases : ℕ) (before after : P) : Type 0 where
  pub works : List Worked
  pub count : length works ≡ databases
  pub each : PagesEach calls server 0 before works after

-- the passes that a page server of this many databases leaves, which began with those: none if there is no page
-- server, else passes after all of its rounds
abbrev pub HasPaged : Option PageServer → ℕ → List Knowledge → Option (List Knowledge) → Type 0
HasPaged None databases before left = left ≡ None
HasPaged (Some server) databases before None = ⊥
HasPaged (Some server) databases before (Some left) = Pages DesksCall server databases before left

-- the same of a page server beside its passes and the number of databases; and they are passes of these desks
abbrev pub AreLeftBy : List DeskOrigin → Option Paging → Option (List Knowledge) → Type 0
AreLeftBy desks None left = left ≡ None
AreLeftBy desks (Some paging) left = HasPaged (Some paging.server) paging.databases paging.passes left × IfSome left (ArePassesOf desks)
