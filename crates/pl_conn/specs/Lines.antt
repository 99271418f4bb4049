-- The connections of a worker: which are open, and whose turn is due.
use Rattle.std.specs.Prelude.{◌≡◌, ◌==◌, ◌||◌, ℕ, ◌+◌, ◌-◌, ◌^◌, ◌<◌, ◌⊎◌, Bool, false, true, List, [], ◌∷◌, ◌++◌, Option, None, Some, Result, Ok, Err, IsErr, if◌then◌else◌}
use Rattle.slab.specs.Slab.{Slab, Updates, get}
use Rattle.pl_wire.specs.Answering.{Calls}
use Rattle.pl_conn.specs.Conversation.{Scene, scene}
use Rattle.pl_conn.specs.Resting.{Rests}
use Rattle.pl_conn.specs.declared.cause.Cause.{Cause}
use Rattle.pl_conn.specs.declared.lines.Line.{Line}
use Rattle.pl_conn.specs.declared.conversation.Rest.{Rest}
use Rattle.pl_conn.specs.declared.conversation.Rest.TheVariants as rests

-- how often the place is in the list
abbrev pub times : ℕ → List ℕ → ℕ
times place [] = 0
times place (first ∷ rest) = (if place == first then 1 else 0) + times place rest

-- once, if its turn is due
abbrev pub once_if_due : Option Line → ℕ
once_if_due None = 0
once_if_due (Some line) = if line.is_due then 1 else 0

-- a connection whose turn is due is in the list once, and another one, or one that is closed, is not
abbrev pub AreListed : Slab Line → List ℕ → Type 0
AreListed lines due = (place : ℕ) → times place due ≡ once_if_due (get lines place)

-- what a worker has: its connections, the places of those whose turn is due, how many sockets it took, and how many
-- conversations ended in a fault
pub record Roll : Type 0 where
  pub lines : Slab Line
  pub due : List ℕ
  pub taken : ℕ
  pub faults : ℕ

-- the connection is open, and its turn is not due
abbrev pub IsIdleAt : Slab Line → ℕ → Type 0
IsIdleAt lines place = (line : Line) × (get lines place ≡ Some line) × (line.is_due ≡ false)

abbrev pub IsIdle : Roll → ℕ → Type 0
IsIdle roll place = IsIdleAt roll.lines place

-- what is noted of one connection changes, but not whether its turn is due
abbrev pub Keeps : Slab Line → ℕ → Slab Line → (Line → Line → Type 0) → Type 0
Keeps old place new P = (line : Line) → get old place ≡ Some line
    → (now : Line) × (now.is_due ≡ line.is_due) × Updates old new place (Some now) × P line now

-- whether its peer sends no more: as before, and as an event says
abbrev pub StaysClosing : Line → Line → Type 0
StaysClosing line now = now.is_closing ≡ line.is_closing

abbrev pub ClosesIf : Bool → Line → Line → Type 0
ClosesIf is_closed line now = now.is_closing ≡ line.is_closing || is_closed

-- a socket, of which no contract knows the bytes, and a pass
abbrev pub at_socket : {P : Type 0} → P → Scene P
at_socket pass = scene None None pass

-- A turn of its own conversation came to this end, and what the conversation kept before the turn it went on from. Whether its
-- peer sends no more stays as it was.
abbrev pub HasTurn : {P : Type 0} → Calls P → P → P → Result Rest Cause → Line → Line → Type 0
HasTurn calls before after end line now = StaysClosing line now × Rests calls (at_socket before) line.talk (at_socket after) now.talk end

-- its turn is due again: the conversation says so, or waits for input though its peer sends no more
abbrev pub IsDueAgain : Result Rest Cause → Bool → Type 0
IsDueAgain end is_closing = (end ≡ Ok rests.Again) ⊎ ((end ≡ Ok rests.Input) × (is_closing ≡ true))

-- it waits for its socket
abbrev pub Waits : Result Rest Cause → Bool → Type 0
Waits end is_closing = (end ≡ Ok rests.Output) ⊎ ((end ≡ Ok rests.Input) × (is_closing ≡ false))

-- the conversation is over, by a fault or without one
abbrev pub IsOver : Result Rest Cause → Type 0
IsOver end = (end ≡ Ok rests.Over) ⊎ IsErr end

-- How a worker goes on after the turn of a connection. One that is due again is listed, after the others, or closed if the
-- list has no room; one that waits stays as it is; one that is over is closed.
pub record Settles (old : Roll) (place : ℕ) (end : Result Rest Cause) (new : Roll) : Type 0 where
  pub again : (line : Line) → get old.lines place ≡ Some line → IsDueAgain end line.is_closing
      → (new.due ≡ old.due ++ place ∷ []) ⊎ (get new.lines place ≡ None)
  pub waits : (line : Line) → get old.lines place ≡ Some line → Waits end line.is_closing → new ≡ old
  pub over : IsOver end → get new.lines place ≡ None
  pub fault : IsErr end → old.faults < 2 ^ 64 - 1 → new.faults ≡ old.faults + 1
  pub taken : new.taken ≡ old.taken

-- The turn of the connection at this place, and how the worker goes on after it: by the end to which the turn came.
pub record TakesTurn {P : Type 0} (calls : Calls P) (before : P) (old : Roll) (place : ℕ) (after : P) (new : Roll) : Type 0 where
  pub end : Result Rest Cause
  pub turned : Roll
  pub turn : Keeps old.lines place turned.lines (HasTurn calls before after end)
  pub same : (turned.due ≡ old.due) × (turned.taken ≡ old.taken) × (turned.faults ≡ old.faults)
  pub settles : Settles turned place end new
