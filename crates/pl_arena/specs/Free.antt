-- How an arena keeps which frames are out, and in which order the others are taken again.
use Rattle.std.specs.Prelude.{◌≡◌, ℕ, ◌+◌, ◌*◌, ◌<◌, ◌≤◌, ◌⊎◌, ◌↔◌, zero, suc, Bool, true, false, List, [], ◌∷◌, ◌++◌, length, Option, Some, None, slice_index_or, if◌then◌else◌}
use Rattle.std.specs.Int.{w32, from_le_bytes}
use Rattle.std.specs.Ordering.{nat_cmp}
use Rattle.std.specs.FinMap as maps
use Rattle.pl_arena.specs.Arena.{Arena, zeros}

-- the number in the first four bytes of a free frame: 0 at the end of the list, else one more than the
-- frame that follows
unfoldable pub link : List ℕ → ℕ
link bytes = from_le_bytes w32 (slice_index_or bytes 0 0 ∷ slice_index_or bytes 1 0 ∷ slice_index_or bytes 2 0 ∷ slice_index_or bytes 3 0 ∷ [])

-- the link in each frame
abbrev pub links : List (List ℕ) → ℕ → ℕ
links frames id = link (slice_index_or frames id [])

-- the list that a link leads to, in which each frame has the link to the next
abbrev pub IsChain : (ℕ → ℕ) → ℕ → List ℕ → Type 0
IsChain next head [] = head ≡ 0
IsChain next head (id ∷ ids) = (head ≡ id + 1) × IsChain next (next id) ids

-- the list has the frame
abbrev pub Among : ℕ → List ℕ → Type 0
Among id [] = ⊥
Among id (other ∷ others) = (id ≡ other) ⊎ Among id others

-- it has no frame twice
abbrev pub IsOnce : List ℕ → Type 0
IsOnce [] = Unit {0}
IsOnce (id ∷ ids) = (Among id ids → ⊥) × IsOnce ids

-- the frame was out before, and is not now
abbrev pub IsGiven : List Bool → ℕ → Type 0
IsGiven outs id = (id < length outs) × (slice_index_or outs id false ≡ false)

-- the frames that were given back, each once, in the order in which they are taken again
pub record IsFreeList (next : ℕ → ℕ) (outs : List Bool) (head : ℕ) (ids : List ℕ) : Type 0 where
  pub chain : IsChain next head ids
  pub once : IsOnce ids
  pub given : (id : ℕ) → Among id ids ↔ IsGiven outs id

-- Each frame that there is was out before. Of each outs says whether it is out now; those that are not lie in the
-- free list.
pub record IsArena (frames : List (List ℕ)) (outs : List Bool) (head max_chunks : ℕ) : Type 0 where
  pub memory : length outs ≡ length frames
  pub limit : length outs ≤ 64 * max_chunks
  pub some : 1 ≤ max_chunks
  pub few : max_chunks ≤ 65536
  pub list : (ids : List ℕ) × IsFreeList (links frames) outs head ids

-- Each frame has a flag. There are no more of them than the chunks have room for, and no more than 65,536 chunks.
pub record AreFlagged (frames : List (List ℕ)) (outs : List Bool) (max_chunks : ℕ) : Type 0 where
  pub memory : length outs ≡ length frames
  pub limit : length outs ≤ 64 * max_chunks
  pub few : max_chunks ≤ 65536

-- there is a frame of zeros more, and it is out; its number is how many frames there were
pub record HasFrameMore (frames : List (List ℕ)) (outs : List Bool) (number : ℕ) (new_frames : List (List ℕ)) (new_outs : List Bool) : Type 0 where
  pub number_is : number ≡ length outs
  pub frame : new_frames ≡ frames ++ zeros ∷ []
  pub flag : new_outs ≡ outs ++ true ∷ []

-- the bytes of a frame, if it is out
abbrev pub held : List (List ℕ) → List Bool → ℕ → Option (List ℕ)
held frames outs id = if slice_index_or outs id false then Some (slice_index_or frames id []) else None

-- a map with what is at one more number, if anything does
abbrev pub put : maps.FinMap nat_cmp (List ℕ) → ℕ → Option (List ℕ) → maps.FinMap nat_cmp (List ℕ)
put m id None = m
put m id (Some bytes) = maps.insert m id bytes

-- the map of what is at the numbers below n
unfoldable pub map_below : ℕ → (ℕ → Option (List ℕ)) → maps.FinMap nat_cmp (List ℕ)
map_below zero f = maps.empty
map_below (suc n) f = put (map_below n f) n (f n)

-- the arena that these make
abbrev pub arena_of : List (List ℕ) → List Bool → ℕ → Arena
arena_of frames outs max_chunks = record { max_chunks = max_chunks; out = map_below (length outs) (held frames outs) }
