-- The bounds of a request.
use Rattle.std.specs.Prelude.{ℕ}

-- the most bytes of a table's text
abbrev pub longest_text : ℕ
longest_text = 65506

-- the most blocks that one pull asks for
abbrev pub most_pulled : ℕ
most_pulled = 16

-- the most blocks that one advance goes on by
abbrev pub most_steps : ℕ
most_steps = 1024

-- the most entries that one audit asks for
abbrev pub most_listed : ℕ
most_listed = 1024
