-- Chunks of up to 64 frames, one after the other.
use Rattle.std.specs.Prelude.{◌≡◌, ℕ, ◌<◌, ◌≤◌, ◌%◌, List, [], ◌∷◌, length, slice_index_or, slice_set}
use Rattle.std.specs.List.{flat_map}

-- each has at most 64 frames, and each but the last has 64
abbrev pub IsPacked : List (List (List ℕ)) → Type 0
IsPacked [] = Unit {0}
IsPacked (chunk ∷ chunks) = (length chunk ≤ 64) × (0 < length chunks → length chunk ≡ 64) × IsPacked chunks

-- their frames as one row
abbrev pub flat : List (List (List ℕ)) → List (List ℕ)
flat chunks = flat_map (λ chunk. chunk) chunks

-- the chunks, with the frame i of the chunk a as the frame j of the chunk b
abbrev pub with_copied_frame : List (List (List ℕ)) → ℕ → ℕ → ℕ → ℕ → List (List (List ℕ))
with_copied_frame chunks a i b j =
    slice_set chunks b (slice_set (slice_index_or chunks b []) j (slice_index_or (slice_index_or chunks a []) i []))

-- the last chunk has room for a frame more
abbrev pub HasRoom : List (List ℕ) → Type 0
HasRoom frames = 0 < length frames % 64
