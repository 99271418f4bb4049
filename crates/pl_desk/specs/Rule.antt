-- What holds between two atomic steps of a desk: of its three words, its slot and the views of its passes.
use Rattle.std.specs.Prelude.{◌≡◌, ◌≢◌, ℕ, ◌+◌, ◌<◌, ◌≤◌, List, [], ◌∷◌, length, slice_index, Option, Some}
use mathlib.Core.Option.{some}
use lib.ListN.{get_elem?}
use Rattle.atomic_table.specs.Table.{State}
use Rattle.pl_core.specs.History.{History}
use Rattle.pl_core.specs.Legal.{IsLegal}
use Rattle.pl_desk.specs.declared.rule.Opening.{Opening}
use Rattle.pl_desk.specs.declared.rule.Terms.{Terms}
use Rattle.pl_desk.specs.declared.rule.Stage.{Stage}
use Rattle.pl_desk.specs.declared.rule.Stage.TheVariants.{Idle, Asking, Waiting, InTurn, Met, Gone}
use Rattle.pl_desk.specs.declared.rule.View.{View}
use Rattle.pl_desk.specs.Growth.{GoesOn, own_entries}

-- what the desk was made with, as plain data
abbrev pub terms_of : Opening → Terms
terms_of opening =
    record { seats = opening.seats; turns = opening.turns; opening = opening.db.value }

-- a legal history that goes on from the one with which the desk was made
pub record GoesOnFrom (terms : Terms) (h : History) : Type 0 where
  pub legal : IsLegal h
  pub onward : GoesOn terms.seats terms.opening h

-- such a history that goes on from what a pass has seen, with no more entries of that pass
pub record IsAhead (terms : Terms) (number : ℕ) (seen h : History) : Type 0 where
  pub sound : GoesOnFrom terms h
  pub onward : GoesOn terms.seats seen h
  pub own : own_entries h number ≡ own_entries seen number

-- what was seen has all of two histories, and of the passes that had seen them no more entries
pub record HasBoth (terms : Terms) (number other : ℕ) (first second seen : History) : Type 0 where
  pub left : GoesOn terms.seats first seen
  pub right : GoesOn terms.seats second seen
  pub left_own : own_entries seen number ≡ own_entries first number
  pub right_own : own_entries seen other ≡ own_entries second other

-- a pass at this stage has this ticket
abbrev pub HasTicket : Stage → ℕ → Type 0
HasTicket Idle ticket = ⊥
HasTicket Asking ticket = ⊥
HasTicket (Waiting t) ticket = t ≡ ticket
HasTicket (InTurn t found) ticket = t ≡ ticket
HasTicket (Met first second other) ticket = ⊥
HasTicket Gone ticket = ⊥

-- 1 of a pass that has read the ticket word and takes a ticket next, else 0
abbrev pub asks_at : Stage → ℕ
asks_at Idle = 0
asks_at Asking = 1
asks_at (Waiting t) = 0
asks_at (InTurn t found) = 0
asks_at (Met first second other) = 0
asks_at Gone = 0

-- 1 of a pass that has a ticket, else 0
abbrev pub holds_at : Stage → ℕ
holds_at Idle = 0
holds_at Asking = 0
holds_at (Waiting t) = 1
holds_at (InTurn t found) = 1
holds_at (Met first second other) = 0
holds_at Gone = 0

-- a count of stages, of all views
abbrev pub total : (Stage → ℕ) → List View → ℕ
total count [] = 0
total count (v ∷ vs) = count v.stage + total count vs

-- What the stage of a view says of the ticket word, of the serving word and of the history: a ticket
-- is one that was drawn and not served, and who has the turn has found the history as it is.
abbrev pub Stands : ℕ → ℕ → History → View → Stage → Type 0
Stands next serving now v Idle = Unit {0}
Stands next serving now v Asking = Unit {0}
Stands next serving now v (Waiting t) = (serving ≤ t) × (t < next)
Stands next serving now v (InTurn t found) = (t ≡ serving) × (t < next) × (found ≡ now)
Stands next serving now v (Met first second other) =
    HasBoth v.terms v.number other first second v.seen
Stands next serving now v Gone = Unit {0}

-- what is so of the view of a pass, if there are this many views
pub record IsView (terms : Terms) (views next serving : ℕ) (now : History) (v : View) : Type 0 where
  pub of : v.terms ≡ terms
  pub sound : GoesOnFrom v.terms v.seen
  pub ahead : IsAhead v.terms v.number v.seen now
  pub some : 1 ≤ v.number
  pub number : v.number ≤ views
  pub drawn : v.drawn ≤ next
  pub dealt : 0 < v.dealt → (v.dealt ≡ views) × (v.number ≡ 1)
  pub stage : Stands next serving now v v.stage

-- two passes have two numbers, and two tickets
pub record AreApart (v w : View) : Type 0 where
  pub numbers : v.number ≢ w.number
  pub tickets : (t : ℕ) → HasTicket v.stage t → HasTicket w.stage t → ⊥

-- The rule: there is one legal history, with as many entries as word 0 counts. Word 1 is the next
-- ticket and word 2 the one that is served. The slot has that history unless a pass has the turn.
-- The view of a pass that was joined away is gone, and nothing is said of it.
pub record DeskInvariant (terms : Terms) (s : State (Option History) View) : Type 0 where
  pub now : History
  pub words : length s.words ≡ 3
  pub slots : length s.homes ≡ 1
  pub bound : terms.turns + terms.seats < 18446744073709551616
  pub legal : IsLegal now
  pub onward : GoesOn (length s.views) terms.opening now
  pub counted : slice_index s.words 0 ≡ length now.entries
  pub seats : length s.views ≤ terms.seats
  pub room : slice_index s.words 1 + total asks_at s.views < terms.turns + length s.views
  pub tickets : slice_index s.words 1 ≡ slice_index s.words 2 + total holds_at s.views
  pub views : (j : ℕ) (v : View) → get_elem? s.views j ≡ some v → v.stage ≢ Gone
      → IsView terms (length s.views) (slice_index s.words 1) (slice_index s.words 2) now v
  pub apart : (i j : ℕ) (v w : View) → i ≢ j → get_elem? s.views i ≡ some v
      → get_elem? s.views j ≡ some w → v.stage ≢ Gone → w.stage ≢ Gone → AreApart v w
  pub home : ((j : ℕ) (v : View) (t : ℕ) (h : History) → get_elem? s.views j ≡ some v
      → v.stage ≢ InTurn t h) → get_elem? s.homes 0 ≡ some (some (Some now))

-- the view of the first pass, which has the number 1 and deals out the others
abbrev pub first_view : Terms → View
first_view terms = record {
  terms = terms;
  number = 1;
  seen = terms.opening;
  drawn = 0;
  dealt = 1;
  stage = Idle;
}
