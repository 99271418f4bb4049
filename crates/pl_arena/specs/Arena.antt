-- An arena as contracts see it: the frames that are out, each with its bytes.
use Rattle.std.specs.Prelude.{ℕ, ◌<◌, ◌*◌, List, Option, replicate, IsSome}
use Rattle.std.specs.Ordering.{nat_cmp}
use Rattle.std.specs.FinMap as maps

-- how many chunks of 64 frames there may be; the bytes of each frame that is out
pub record Arena : Type 0 where
  pub max_chunks : ℕ
  pub out : maps.FinMap nat_cmp (List ℕ)

-- the bytes of a frame, if it is out
abbrev pub frame_bytes : Arena → ℕ → Option (List ℕ)
frame_bytes arena id = maps.get arena.out id

-- the frame is out
abbrev pub IsOut : Arena → ℕ → Type 0
IsOut arena id = IsSome (frame_bytes arena id)

-- how many frames there may be
abbrev pub capacity : Arena → ℕ
capacity arena = 64 * arena.max_chunks

-- each frame that there may be is out
abbrev pub IsFull : Arena → Type 0
IsFull arena = (id : ℕ) → id < capacity arena → IsOut arena id

-- the frame is out and has these bytes; the others are as before
abbrev pub with_frame : Arena → ℕ → List ℕ → Arena
with_frame arena id bytes = record { max_chunks = arena.max_chunks; out = maps.insert arena.out id bytes }

-- the frame is not out; the others are as before
abbrev pub without_frame : Arena → ℕ → Arena
without_frame arena id = record { max_chunks = arena.max_chunks; out = maps.remove arena.out id }

-- the bytes of a frame that was just taken
unfoldable pub zeros : List ℕ
zeros = replicate 8192 0
