-- What follows from the definitions.
use Rattle.std.specs.Prelude.{◌≡◌, ℕ, ◌+◌, ◌≤◌, ◌↔◌, List, ◌++◌, length, take, drop, map, Some}
use Rattle.pl_block.specs.Block.{Content}
use Rattle.pl_block.specs.Bounds.{last_lsn}
use Rattle.pl_pages.specs.Page.{page_of}
use Rattle.pl_images.specs.Position.{position_at, lsn_at}

-- the blocks have the same records, in the same order, whatever their LSNs
abbrev pub HaveSameRecords : List Content → List Content → Type 0
HaveSameRecords some others = map (λ block. block.records) some ≡ map (λ block. block.records) others

-- A generation: images that have the pages of a log at a base, and after them the records of the log after the base.
pub record IsGeneration (base : ℕ) (log images rest : List Content) : Type 0 where
  pub within : base ≤ length log
  pub pages : (page : ℕ) → page_of page images ≡ page_of page (take base log)
  pub after : HaveSameRecords rest (drop base log)

-- what the pages of a generation are
pub record GenerationsContinue : Type 0 where
  -- the pages of all its blocks are those of the whole log
  pub whole : (base page : ℕ) (log images rest : List Content) → IsGeneration base log images rest → page_of page (images ++ rest) ≡ page_of page log
  -- at an LSN that has a position, its pages are those of the log at that position
  pub each : (base page lsn position : ℕ) (log images rest : List Content) → IsGeneration base log images rest
      → position_at base (length images) lsn ≡ Some position
      → page_of page (take lsn (images ++ rest)) ≡ page_of page (take position log)

-- positions and LSNs under one shift
pub record PositionsFollow : Type 0 where
  -- a position less the base is its LSN less the blocks of images
  pub sum : (base images lsn position : ℕ) → position_at base images lsn ≡ Some position → position + images ≡ lsn + base
  -- a position leads back to its LSN, and an LSN to its position
  pub back : (base images lsn position : ℕ) → lsn ≤ last_lsn → position ≤ last_lsn
      → (position_at base images lsn ≡ Some position) ↔ (lsn_at base images position ≡ Some lsn)
  -- the order of LSNs is that of their positions
  pub order : (base images a b p q : ℕ) → position_at base images a ≡ Some p → position_at base images b ≡ Some q → (a ≤ b) ↔ (p ≤ q)
