-- How a history goes on, and the entries of one pass.
use Rattle.std.specs.Prelude.{◌≡◌, ℕ, ◌≤◌, ◌==◌, List, [], ◌∷◌, ◌++◌, filter}
use Rattle.pl_core.specs.History.{Entry, History}

-- each of the entries is of a pass numbered 1 to seats
abbrev pub AreOfPasses : ℕ → List Entry → Type 0
AreOfPasses seats [] = Unit {0}
AreOfPasses seats (e ∷ es) =
    (1 ≤ e.line.pass) × (e.line.pass ≤ seats) × AreOfPasses seats es

-- the later history begins with the earlier one, and the entries that it has more are of passes
-- numbered 1 to seats
pub record GoesOn (seats : ℕ) (earlier later : History) : Type 0 where
  pub start : later.start ≡ earlier.start
  pub more : List Entry
  pub entries : later.entries ≡ more ++ earlier.entries
  pub numbered : AreOfPasses seats more

-- the entries of one pass, the newest first
abbrev pub own_entries : History → ℕ → List Entry
own_entries h number = filter (λ e. e.line.pass == number) h.entries
