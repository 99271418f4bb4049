-- What a caller knows of a desk and of its passes.
use Rattle.std.specs.Prelude.{◌≡◌, ◌≢◌, ℕ, ◌+◌, ◌<◌, ◌≤◌, List, [], ◌∷◌, ◌++◌, length, map, if◌then◌else◌}
use Rattle.std.specs.List.{range_with_len}
use Rattle.atomic_table.specs.Seated.{TableId}
use Rattle.pl_table.specs.Requests.Request.{Query}
use Rattle.pl_core.specs.declared.reply.Reply.{Reply}
use Rattle.pl_core.specs.declared.reply.Reply.TheVariants as replies
use Rattle.pl_core.specs.History.{Entry, History, entry_of}
use Rattle.pl_core.specs.Verdict.{verdict_of}
use Rattle.pl_core.specs.Answer.{makes_entry}
use Rattle.pl_core.specs.Step.{IsStep}
use Rattle.pl_desk.specs.declared.rule.Opening.{Opening}
use Rattle.pl_desk.specs.declared.rule.Terms.{Terms}
use Rattle.pl_desk.specs.declared.rule.View.{View}
use Rattle.pl_desk.specs.Growth.{GoesOn, own_entries}
use Rattle.pl_desk.specs.Rule.{terms_of, GoesOnFrom, IsAhead}

-- what a pass knows: its desk, what that was made with, its number, the history that it has seen,
-- and the greatest ticket word that it has read
pub record Knowledge : Type 0 where
  pub desk : TableId
  pub terms : Terms
  pub number : ℕ
  pub seen : History
  pub drawn : ℕ

-- a desk, and what it was made with
pub record DeskOrigin : Type 0 where
  pub desk : TableId
  pub terms : Terms

-- what a desk with this key is to a caller
abbrev pub origin_of : TableId → Opening → DeskOrigin
origin_of desk key = record { desk = desk; terms = terms_of key }

-- what the view of a pass says to a caller
abbrev pub knowledge_of : TableId → View → Knowledge
knowledge_of desk v = record {
  desk = desk;
  terms = v.terms;
  number = v.number;
  seen = v.seen;
  drawn = v.drawn;
}

-- the pass is of the desk
abbrev pub IsOf : DeskOrigin → Knowledge → Type 0
IsOf desk p = (p.desk ≡ desk.desk) × (p.terms ≡ desk.terms)

-- it is the same pass, though it may know more
pub record IsSamePass (before after : Knowledge) : Type 0 where
  pub desk : after.desk ≡ before.desk
  pub terms : after.terms ≡ before.terms
  pub number : after.number ≡ before.number

-- the entry of a request that was answered so, if there is one
abbrev pub entries_made : Query → ℕ → History → Reply → List Entry
entries_made request number found reply =
    if makes_entry reply
    then entry_of request (length found.entries + 1) number (verdict_of request found) ∷ []
    else []

-- The call had a turn. The history that it found is legal, goes on from what the pass had seen, and
-- has no more entries of the pass. The reply is that of a step of the database there, and what the
-- pass has seen now is the history after it.
pub record HadTurn (before : Knowledge) (request : Query) (reply : Reply) (after : Knowledge) : Type 0 where
  pub found : History
  pub ahead : IsAhead before.terms before.number before.seen found
  pub step : IsStep before.number request found reply after.seen
  pub sound : GoesOnFrom before.terms after.seen
  pub onward : GoesOn before.terms.seats before.seen after.seen
  pub own : own_entries after.seen before.number
      ≡ entries_made request before.number found reply ++ own_entries before.seen before.number
  pub turns : after.drawn < before.terms.turns

-- all turns had been given: nothing has changed
pub record WasSpent (before after : Knowledge) : Type 0 where
  pub same : after.seen ≡ before.seen
  pub turns : before.terms.turns ≤ after.drawn

-- what a call says: Spent if all turns had been given, else the reply of a turn
pub record WasCalled (before : Knowledge) (request : Query) (reply : Reply) (after : Knowledge) : Type 0 where
  pub drawn : before.drawn ≤ after.drawn
  pub sound : GoesOnFrom before.terms before.seen
  pub spent : reply ≡ replies.Spent → WasSpent before after
  pub turn : reply ≢ replies.Spent → HadTurn before request reply after

-- What both passes had seen is the beginning of what the first has seen now, which is legal and has
-- no more entries of either.
pub record HasMet (before other after : Knowledge) : Type 0 where
  pub sound : GoesOnFrom before.terms after.seen
  pub left : GoesOn before.terms.seats before.seen after.seen
  pub right : GoesOn before.terms.seats other.seen after.seen
  pub left_own : own_entries after.seen before.number ≡ own_entries before.seen before.number
  pub right_own : own_entries after.seen other.number ≡ own_entries other.seen other.number
  pub drawn : after.drawn ≡ before.drawn

-- a pass that has seen nothing but the opening
abbrev pub fresh : DeskOrigin → ℕ → Knowledge
fresh desk number = record {
  desk = desk.desk;
  terms = desk.terms;
  number = number;
  seen = desk.terms.opening;
  drawn = 0;
}

-- this many passes, in the order of their numbers from 1 on
abbrev pub fresh_passes : DeskOrigin → ℕ → List Knowledge
fresh_passes desk count = map (fresh desk) (range_with_len 1 count)
