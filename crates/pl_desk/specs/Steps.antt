-- The atomic steps of a desk: what each reports to its pass, and the view that it leaves.
use Rattle.std.specs.Prelude.{◌≡◌, ◌≢◌, ℕ, ◌+◌, ◌<◌, ◌≤◌, Bool, true, false, nat_lt, [], ◌∷◌, length, Option, Some, if◌then◌else◌}
use Rattle.atomic_table.specs.Table.{Step, Me, rest}
use Rattle.pl_table.specs.declared.tables.zone.Zone.TheVariants.{Three}
use Rattle.std.specs.Global.{Vec}
use Rattle.pl_core.specs.declared.reply.Answer.{Answer}
use Rattle.pl_core.specs.declared.reply.Reply.TheVariants as replies
use Rattle.pl_core.specs.Appending.{AppendsTo, reply_in}
use Rattle.pl_core.specs.Reply.{FitsReply}
use Rattle.pl_core.specs.History.{Entry, History, grown}
use Rattle.pl_core.specs.Legal.{IsLegal}
use Rattle.pl_desk.specs.declared.rule.Stage.{Stage}
use Rattle.pl_desk.specs.declared.rule.Stage.TheVariants.{Idle, Asking, Waiting, InTurn, Met, Gone}
use Rattle.pl_desk.specs.declared.rule.View.{View}
use Rattle.pl_desk.specs.Rule.{GoesOnFrom, IsAhead, HasBoth}

-- a pass of the table: its view, and the slot that it holds, if any
abbrev pub HeldSlot : Type 0
HeldSlot = Me (Option History) View

-- the view at another stage
abbrev pub at_stage : Stage → View → View
at_stage stage v = record v { stage = stage }

-- ---- 2: load the ticket word

-- the view that has read it: it goes on if turns are left
abbrev pub asked : ℕ → View → View
asked found v =
    record v { drawn = found; stage = if nat_lt found v.terms.turns then Asking else Idle }

abbrev pub asks_then : Step (Option History) → HeldSlot → ℕ → HeldSlot → Type 0
asks_then st me found after = (after ≡ (asked found me.0, me.1))
    × (me.0.drawn ≤ found) × GoesOnFrom me.0.terms me.0.seen

-- ---- 3: add 1 to the ticket word

abbrev pub draws_then : Step (Option History) → HeldSlot → ℕ → HeldSlot → Type 0
draws_then st me ticket after = after ≡ (at_stage (Waiting ticket) me.0, me.1)

-- ---- 4: load the serving word

-- the ticket of a stage
abbrev pub ticket_of : Stage → ℕ
ticket_of Idle = 0
ticket_of Asking = 0
ticket_of (Waiting t) = t
ticket_of (InTurn t found) = t
ticket_of (Met first second other) = 0
ticket_of Gone = 0

-- if the pass's own ticket is served it has the turn, and the slot with a history that goes on
-- from what it has seen; else nothing has changed
abbrev pub looks_then : Step (Option History) → HeldSlot → ℕ → HeldSlot → Type 0
looks_then st me served after =
    (served ≢ ticket_of me.0.stage → after ≡ me)
    × (served ≡ ticket_of me.0.stage → (found : History)
    × (after ≡ (at_stage (InTurn (ticket_of me.0.stage) found) me.0, (0, Some found) ∷ me.1))
    × IsAhead me.0.terms me.0.number me.0.seen found)

-- ---- 6: add 1 to the count of entries

-- the later history is the earlier one with one entry more, of the pass with this number
pub record AddsOne (number : ℕ) (earlier later : History) : Type 0 where
  pub entry : Entry
  pub own : entry.line.pass ≡ number
  pub grown : later ≡ grown earlier entry
  pub legal : IsLegal later
  pub fits : length later.entries < 18446744073709551616

-- the view that has seen this history, in its turn
abbrev pub counted : History → View → View
counted now v = record v { seen = now; stage = InTurn (ticket_of v.stage) now }

abbrev pub counts_then : History → Step (Option History) → HeldSlot → ℕ → HeldSlot → Type 0
counts_then now st me found after = after ≡ (counted now me.0, me.1)

-- ---- 8: add 1 to the serving word

-- the history that the turn has found, or else what was seen
abbrev pub found_or : History → Stage → History
found_or seen Idle = seen
found_or seen Asking = seen
found_or seen (Waiting t) = seen
found_or seen (InTurn t found) = found
found_or seen (Met first second other) = seen
found_or seen Gone = seen

-- the view that has given its turn on
abbrev pub turn_passed : View → View
turn_passed v = record v { seen = found_or v.seen v.stage; stage = Idle }

-- the slot is home again
abbrev pub serves_then : Step (Option History) → HeldSlot → ℕ → HeldSlot → Type 0
serves_then st me found after = after ≡ (turn_passed me.0, rest me.1)

-- ---- 9: deal out one more pass

-- the view of pass 1, which has dealt one more
abbrev pub dealing : View → View
dealing v = record v { dealt = v.dealt + 1 }

-- the view of the new pass
abbrev pub dealt : View → View
dealt v = record v { number = v.dealt + 1; dealt = 0 }

-- ---- 10: take in another pass

-- the history with more entries
abbrev pub longer : History → History → History
longer first second =
    if nat_lt (length first.entries) (length second.entries) then second else first

-- the view that has taken in another
abbrev pub meeting : View → View → View
meeting v w = record v { seen = longer v.seen w.seen; stage = Met v.seen w.seen w.number }

-- a history of nothing, for the view of no pass
abbrev pub no_history : History
no_history = record {
  start = record {
    table = record { principals = []; rows = []; zone = Three };
    primary = 0;
    limits = record { audit = 0; chunks = 0 };
  };
  entries = [];
}

-- the view of no pass, which the pass that was taken in leaves
abbrev pub gone : View
gone = record {
  terms = record { seats = 0; turns = 0; opening = no_history };
  number = 0;
  seen = no_history;
  drawn = 0;
  dealt = 0;
  stage = Gone;
}

-- ---- 11: load the count of entries for the meeting

abbrev pub meets_then : Step (Option History) → HeldSlot → ℕ → HeldSlot → Type 0
meets_then st me found after = (after ≡ (at_stage Idle me.0, me.1))
    × GoesOnFrom me.0.terms me.0.seen
    × ((first second : History) (other : ℕ) → me.0.stage ≡ Met first second other
    → HasBoth me.0.terms me.0.number other first second me.0.seen)

-- ---- a turn

-- one entry more, or the same history
abbrev pub Grows : Bool → ℕ → History → History → Type 0
Grows true number earlier later = AddsOne number earlier later
Grows false number earlier later = later ≡ earlier

-- The reply of a step, of which a page's bytes were appended to this buffer: it is not Spent and can be
-- written, and the buffer keeps its bytes and its memory.
pub record IsReplyOfStep (answer : Answer) (before after : Vec ℕ) : Type 0 where
  pub never : reply_in answer before.items after.items ≢ replies.Spent
  pub fits : FitsReply (reply_in answer before.items after.items)
  pub page : AppendsTo answer before after

-- the view after its turn
abbrev pub settled : History → View → View
settled now v = record v { seen = now; stage = Idle }
