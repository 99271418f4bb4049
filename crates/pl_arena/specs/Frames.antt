-- What is left of the frames of all chunks once one of them was written.
use Rattle.std.specs.Prelude.{ℕ, List, slice_set}
use Rattle.std.specs.Borrow.{MutBor, Fml, Lends, Array, u8}
use Rattle.pl_arena.specs.contracts.frames.Frames.{the_row}

-- the frame at i has the bytes that were left
abbrev pub LendsPlace : MutBor (List (List ℕ)) → ℕ → MutBor (List ℕ) → Fml
LendsPlace frames i bytes = Lends the_row (Array u8 8192) frames bytes (slice_set frames.now i)
