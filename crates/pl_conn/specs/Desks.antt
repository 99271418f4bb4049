-- Several desks and their passes, as a caller sees them: a list of desks, and a list with a pass of
-- each.
use Rattle.std.specs.Prelude.{◌≡◌, ℕ, List, [], ◌∷◌, ◌++◌, map, length, slice_get, slice_set, Option, Some, None, IfSome}
use Rattle.std.specs.List.{All, range_with_len}
use Rattle.pl_table.specs.Requests.Request.{Query}
use Rattle.pl_core.specs.History.{History}
use Rattle.pl_core.specs.declared.reply.Reply.{Reply}
use Rattle.pl_core.specs.declared.reply.Reply.TheVariants as replies
use Rattle.pl_desk.specs.declared.rule.Terms.{Terms}
use Rattle.pl_desk.specs.Passes.{Knowledge, DeskOrigin, IsOf, IsSamePass, WasCalled, HasMet, fresh}
use Rattle.pl_desk.specs.Laws.{HasSeen}

-- as many passes as desks, each of the desk at its place
pub record ArePassesOf (desks : List DeskOrigin) (passes : List Knowledge) : Type 0 where
  pub count : length passes ≡ length desks
  pub each : (i : ℕ) (desk : DeskOrigin) (pass : Knowledge)
      → slice_get desks i ≡ Some desk → slice_get passes i ≡ Some pass → IsOf desk pass

-- a call with the pass of its database: that pass was called, and the others are the same; if
-- there is no such pass, there is no such database, and nothing has changed
abbrev pub CalledWith : Option Knowledge → List Knowledge → Query → Reply → List Knowledge → Type 0
CalledWith None before request reply after = (reply ≡ replies.NoDatabase) × (after ≡ before)
CalledWith (Some pass) before request reply after = (now : Knowledge)
    × (after ≡ slice_set before request.head.database now)
    × IsSamePass pass now × WasCalled pass request reply now

-- a call of the database that the request names
abbrev pub DesksCall : List Knowledge → Query → Reply → List Knowledge → Type 0
DesksCall before request reply after =
    CalledWith (slice_get before request.head.database) before request reply after

-- at each desk the pass has met the other
pub record HaveMet (before other after : List Knowledge) : Type 0 where
  pub count : length after ≡ length before
  pub each : (i : ℕ) (p o : Knowledge) → slice_get before i ≡ Some p → slice_get other i ≡ Some o
      → (now : Knowledge) × (slice_get after i ≡ Some now) × IsSamePass p now × HasMet p o now

-- at each desk the pass has seen all that the other one had: its own entries, and those of others
abbrev pub HaveSeen : List Knowledge → List Knowledge → Type 0
HaveSeen after other = (i : ℕ) (o : Knowledge) → slice_get other i ≡ Some o
    → (now : Knowledge) × (slice_get after i ≡ Some now) × HasSeen now o.seen

-- passes that have met: the one that is left, and before they met those of workers and that of a page server
pub record Met : Type 0 where
  pub left : List Knowledge
  pub workers : List (List Knowledge)
  pub pager : Option (List Knowledge)

-- THE THEOREM of passes that meet in the end: one is left, of these desks, which has seen all that each of them had; none if
-- there were none.
abbrev pub AllMet : List DeskOrigin → List (List Knowledge) → Option (List Knowledge) → Option Met → Type 0
AllMet desks workers pager None = (workers ≡ []) × (pager ≡ None)
AllMet desks workers pager (Some met) = (met.workers ≡ workers) × (met.pager ≡ pager) × ArePassesOf desks met.left
    × All (HaveSeen met.left) workers × IfSome pager (HaveSeen met.left)

-- what the desks of these databases are made with
abbrev pub terms_of_each : ℕ → ℕ → List History → List Terms
terms_of_each seats turns dbs =
    map (λ db. record { seats = seats; turns = turns; opening = db }) dbs

-- the fresh pass with a number of each desk
abbrev pub fresh_at : List DeskOrigin → ℕ → List Knowledge
fresh_at desks number = map (λ desk. fresh desk number) desks

-- this many of them, in the order of their numbers from 1 on
abbrev pub all_fresh : List DeskOrigin → ℕ → List (List Knowledge)
all_fresh desks seats = map (fresh_at desks) (range_with_len 1 seats)

-- each list has the item at its place after its own, as far as there are items
abbrev pub dealt_into : List Knowledge → List (List Knowledge) → List (List Knowledge)
dealt_into [] lists = lists
dealt_into (item ∷ items) [] = []
dealt_into (item ∷ items) (list ∷ lists) = (list ++ item ∷ []) ∷ dealt_into items lists
