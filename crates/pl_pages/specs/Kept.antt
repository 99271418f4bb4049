-- The versions that the code keeps: which page and LSN lies in which frame.
use Rattle.std.specs.Prelude.{◌≡◌, ℕ, ◌<◌, ◌≤◌, List, [], length, map, slice_index_or, slice_set, unwrap_or}
use Rattle.pl_arena.specs.Arena.{Arena, IsOut, frame_bytes}
use Rattle.pl_block.specs.Block.{Content}
use Rattle.pl_pages.specs.Page.{after_block}
use Rattle.pl_pages.specs.State.{Version, AreVersions}
use Rattle.pl_pages.specs.declared.versions.Kept.{Kept}

-- the versions, and the number of chunks for them
pub record VersionsState : Type 0 where
  pub versions : List Version
  pub chunks : ℕ

-- the page that lies in a frame
abbrev pub version_in : Arena → Kept → Version
version_in arena k = record { page = k.page; lsn = k.lsn; bytes = unwrap_or (frame_bytes arena k.frame) [] }

-- the pages that lie in frames
abbrev pub versions_in : Arena → List Kept → List Version
versions_in arena ks = map (version_in arena) ks

-- the frames of versions
abbrev pub frame_ids : List Kept → List ℕ
frame_ids ks = map (λ k. k.frame) ks

-- Of the frames of versions each is out, and no two are the same; each frame that is out is one of
-- them. The oldest version is one of those that there are.
pub record AreKept (arena : Arena) (frames : List ℕ) (oldest : ℕ) : Type 0 where
  pub some : 1 ≤ arena.max_chunks
  pub out : (i : ℕ) → i < length frames → IsOut arena (slice_index_or frames i 0)
  pub apart : (i j : ℕ) → i < length frames → j < length frames → slice_index_or frames i 0 ≡ slice_index_or frames j 0 → i ≡ j
  pub each : (id : ℕ) → IsOut arena id → (i : ℕ) × ((i < length frames) × (slice_index_or frames i 0 ≡ id))
  pub turn : 0 < oldest → oldest < length frames

-- the version at a place
abbrev pub version_at : List Version → ℕ → Version
version_at versions place = slice_index_or versions place (record { page = 0; lsn = 0; bytes = [] })

-- there is one at the place, of page p at the LSN n
pub record IsAt (versions : List Version) (place p n : ℕ) : Type 0 where
  pub within : place < length versions
  pub page : (version_at versions place).page ≡ p
  pub lsn : (version_at versions place).lsn ≡ n

-- those that there were are where they were
pub record StayInPlace (old new : List Version) : Type 0 where
  pub len : length old ≤ length new
  pub same : (place : ℕ) → place < length old → version_at new place ≡ version_at old place

-- what was true of the versions, by the replay of any log, still is
abbrev pub StayTrue : List Version → List Version → Type 0
StayTrue old new = (log : List Content) → AreVersions old log → AreVersions new log

-- the version at the place has the changes of a block more, and its LSN
abbrev pub with_block : List Version → ℕ → Content → List Version
with_block versions place block =
    let v = version_at versions place in
    slice_set versions place (record { page = v.page; lsn = block.lsn; bytes = after_block v.page v.bytes block })
