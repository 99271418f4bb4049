-- What an arena is once the bytes that it lent are given back.
use Rattle.std.specs.Prelude.{ℕ, List}
use Rattle.std.specs.Borrow.{MutBor, Fml, Lends, Array, u8}
use Rattle.pl_arena.specs.contracts.arena.VersionArena.{the_row}
use Rattle.pl_arena.specs.Arena.{Arena, with_frame}

-- the frame has the bytes that were left, and the other frames are as before
abbrev pub LendsFrame : MutBor Arena → ℕ → MutBor (List ℕ) → Fml
LendsFrame arena id bytes = Lends the_row (Array u8 0) arena bytes (with_frame arena.now id)
