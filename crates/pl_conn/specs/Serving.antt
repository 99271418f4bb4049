-- Passes after the conversations of their workers.
use Rattle.std.specs.Prelude.{◌≡◌, ◌≢◌, ℕ, ℤ, pos, ◌≤◌, ◌⊎◌, ⊤, Bool, false, List, [], ◌∷◌, length, Option, Some, None, take}
use Rattle.std.specs.List.{All, list_any}
use Rattle.std.specs.Ordering.{int_eq}
use Rattle.pl_table.specs.Requests.Request.{Query}
use Rattle.pl_core.specs.declared.reply.Reply.{Reply}
use Rattle.pl_wire.specs.Answering.{Calls}
use Rattle.pl_conn.specs.declared.service.Stop.{Stop}
use Rattle.pl_conn.specs.declared.service.Stop.TheVariants as stops

-- these calls, one after the other: each is a request and its reply, and begins with the pass that the one before it left
abbrev pub Chained : {P : Type 0} → Calls P → P → List (Query × Reply) → P → Type 0
Chained calls before [] after = after ≡ before
Chained calls before (made ∷ more) after = (now : _) × calls before made.0 made.1 now × Chained calls now more after

-- by a list of calls
abbrev pub Reaches : {P : Type 0} → Calls P → P → P → Type 0
Reaches calls before after = (made : List (Query × Reply)) × Chained calls before made after

-- each pass is the one at its place after a list of calls, and there are as many
abbrev pub Returned : {P : Type 0} → Calls P → List P → List P → Type 0
Returned calls [] [] = ⊤
Returned calls [] (pass ∷ passes) = ⊥
Returned calls (given ∷ others) [] = ⊥
Returned calls (given ∷ others) (pass ∷ passes) = Reaches calls given pass × Returned calls others passes

-- what is so once all connections are served: as many workers were started as passes come back, at least one if connections could
-- be accepted, and these are the passes of the first workers, in order
pub record ServesConnections {P : Type 0} (calls : Calls P) (owns : P → Type 0) (given : List P) (connections accepted : ℕ) (stop : Stop) (passes : List P) : Type 0 where
  pub most : accepted ≤ connections
  pub limit : stop ≡ stops.Limit → accepted ≡ connections
  pub none : stop ≡ stops.Start → (accepted ≡ 0) × (passes ≡ [])
  pub started : (stop ≡ stops.Limit) ⊎ (stop ≡ stops.Accept) → 1 ≤ length passes
  pub returned : Returned calls (take (length passes) given) passes
  pub own : All owns passes

-- what is so once no more connections are accepted for workers: at most this many were, just as many if that was the limit
abbrev pub Accepts : ℕ → ℕ → Stop → Type 0
Accepts connections accepted stop = (accepted ≤ connections) × (stop ≡ stops.Limit → accepted ≡ connections) × (stop ≢ stops.Start)

-- the numbers of the failures of an accept that say nothing of the listener
abbrev pub passing : List ℤ
passing = pos 1 ∷ pos 4 ∷ pos 12 ∷ pos 23 ∷ pos 24 ∷ pos 64 ∷ pos 71 ∷ pos 92 ∷ pos 100 ∷ pos 101 ∷ pos 103 ∷ pos 105 ∷ pos 112 ∷ pos 113 ∷ []

-- whether a failure is one of them
abbrev pub is_passing : Option ℤ → Bool
is_passing None = false
is_passing (Some code) = list_any (λ number. int_eq number code) passing
