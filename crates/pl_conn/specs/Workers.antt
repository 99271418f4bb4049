-- Workers: what their handles promise. A list of them comes first, so that what is said of each knows its type.
use Rattle.std.specs.Prelude.{◌≡◌, List, ◌++◌, map}
use Rattle.std.specs.List.{All}
use Rattle.pl_wire.specs.Answering.{Calls}
use Rattle.pl_conn.specs.Serving.{Returned}

-- what each has
abbrev pub each_of : {H X : Type 0} → List H → (H → X) → List X
each_of hs f = map f hs

-- this of each
abbrev pub AllOf : {H : Type 0} → List H → (H → Type 0) → Type 0
AllOf hs P = All P hs

-- Workers that are begun, in order: each has the promise that begins with its pass. The passes that are left come after theirs.
pub record Begun {H G P : Type 0} (hs : List H) (start : H → P) (gate_of : H → G) (owns : G → P → Type 0) (gate : G) (all left : List P) : Type 0 where
  pub starts : map start hs ++ left ≡ all
  pub gates : All (λ h. gate_of h ≡ gate) hs
  pub own : All (owns gate) left

-- Workers that are ended, in order: each left its own pass after calls. Those that are not ended come after them.
pub record Ended {H G P : Type 0} (hs : List H) (start : H → P) (gate_of : H → G) (calls : G → Calls P) (owns : G → P → Type 0) (gate : G) (all ended : List P) : Type 0 where
  pub joined : List P
  pub returned : Returned (calls gate) joined ended
  pub others : joined ++ map start hs ≡ all
  pub gates : All (λ h. gate_of h ≡ gate) hs
  pub own : All (owns gate) ended
