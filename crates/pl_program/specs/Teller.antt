-- What `serve` reports on standard error while it goes on.
use Rattle.std.specs.Prelude.{ℕ, List, ◌++◌, codes, decimal}

-- the line of a service with fewer workers than were asked for
abbrev pub crew_text : ℕ → ℕ → List ℕ
crew_text started asked = codes "workers: " ++ (decimal started ++ (codes " of " ++ (decimal asked ++ codes "\n")))
