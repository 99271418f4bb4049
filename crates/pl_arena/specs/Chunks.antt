-- What lending frames of a chunk leaves.
use Rattle.std.specs.Prelude.{ℕ, List, length, slice_set}
use Rattle.std.specs.Borrow.{MutBor, Fml, Lends, Array, u8}
use Rattle.std.specs.List.{refill}
use Rattle.pl_arena.specs.contracts.chunk.Chunk.{the_row}

-- the frames have the bytes that were left
abbrev pub LendsFrames : MutBor (List (List ℕ)) → MutBor (List (List ℕ)) → Fml
LendsFrames chunk frames = Lends the_row (Array (Array u8 8192) 0) chunk frames (refill (length chunk.now) chunk.now)

-- the frame at the place has the bytes that were left
abbrev pub LendsSlot : MutBor (List (List ℕ)) → ℕ → MutBor (List ℕ) → Fml
LendsSlot chunk i bytes = Lends the_row (Array u8 8192) chunk bytes (slice_set chunk.now i)
