-- Packing: Puts gathered into blocks, each filled before the next one begins.
use Rattle.std.specs.Prelude.{◌≡◌, ◌≢◌, ℕ, ◌+◌, ◌*◌, ◌<◌, ◌≤◌, List, [], ◌∷◌, ◌++◌, length, min, take, drop, fold, true, Option, None, Some, ◌==◌, if◌then◌else◌}
use Rattle.std.specs.List.{AllByRecursion}
use Rattle.pl_block.specs.Block.{Content, IsRecord, touched, with_partition}
use Rattle.pl_block.specs.Bounds.{longest_block, page_size}
use Rattle.pl_block.specs.Numbered.{AreNumbered}
use Rattle.pl_block.specs.Spelling.{IsBlock, block_spelling}
use Rattle.pl_block.specs.declared.record.Record.{Record}
use Rattle.pl_block.specs.declared.record.Record.TheVariants.{Put}
use Rattle.pl_pages.specs.Page.{after_record, empty_page, page_of}
use Rattle.pl_images.specs.Image.{PageImage, after_image, image_at, are_rising}

-- The LSN of the first block, the blocks that are full, and of the one that is open the records, a length that its bytes do not
-- pass, and the partition of the last record.
pub record PackingState : Type 0 where
  pub first : ℕ
  pub blocks : List Content
  pub records : List Record
  pub size : ℕ
  pub partition : Option ℕ

-- a page after all that was packed
abbrev pub packed : ℕ → PackingState → List ℕ
packed page s = fold (after_record page) (page_of page s.blocks) s.records

-- how many blocks there are, with the open one if it has a record
abbrev pub begun : PackingState → ℕ
begun s = length s.blocks + min 1 (length s.records)

-- the bytes of a block without records
abbrev pub empty_len : ℕ
empty_len = 12

-- the bytes of a Put beside those that it puts, and of its partition, unless the record before it has the same one
abbrev pub heads_of : Option ℕ → ℕ → ℕ
heads_of None p = 11
heads_of (Some q) p = if q == p then 9 else 11

-- The full blocks are blocks, with the LSNs from first on. The records of the open one are records; its spelling has at most
-- size bytes, and they touch the partition, if there is one.
pub record IsPacking (first size : ℕ) (partition : Option ℕ) (blocks : List Content) (records : List Record) : Type 0 where
  pub some : 1 ≤ first
  pub numbered : AreNumbered first blocks
  pub valid : AllByRecursion IsBlock blocks
  pub each : AllByRecursion IsRecord records
  pub counted : (lsn : ℕ) → length (block_spelling (record { lsn = lsn; records = records })) ≤ size
  pub within : size ≤ longest_block
  pub empty : length records ≡ 0 → size ≡ empty_len
  pub touches : (p : ℕ) → partition ≡ Some p → with_partition p (touched records) ≡ touched records

-- the open block was filled, and another one is open
pub record Closes (old new : PackingState) : Type 0 where
  pub first : new.first ≡ old.first
  pub blocks : new.blocks ≡ old.blocks ++ (record { lsn = old.first + length old.blocks; records = old.records }) ∷ []
  pub records : new.records ≡ []

-- no page changed, and no block more is begun
pub record SamePages (old new : PackingState) : Type 0 where
  pub first : new.first ≡ old.first
  pub pages : (other : ℕ) → packed other new ≡ packed other old
  pub few : begun new ≤ begun old

-- so is it, and the open block has room for a Put of the partition with this many bytes, some and not more than there are
pub record HasRoom (old new : PackingState) (p len n : ℕ) : Type 0 where
  pub same : SamePages old new
  pub some : 0 < n
  pub within : n ≤ len
  pub fits : new.size + heads_of new.partition p + n ≤ longest_block

-- all pages are as if bytes were put into one, from an offset on; each block more has at least one of these bytes
pub record Puts (old new : PackingState) (page offset : ℕ) (bytes : List ℕ) : Type 0 where
  pub first : new.first ≡ old.first
  pub pages : (other : ℕ) → packed other new ≡ after_record other (packed other old) (Put page offset bytes)
  pub few : begun new ≤ begun old + length bytes

-- the first bytes, this many, were put, and the others are left
pub record PutsFront (old new : PackingState) (page offset : ℕ) (bytes rest : List ℕ) (n : ℕ) : Type 0 where
  pub some : 0 < n
  pub within : n ≤ length bytes
  pub rest_is : rest ≡ drop n bytes
  pub puts : Puts old new page offset (take n bytes)

-- the first bytes of a page, and zeros after them
abbrev pub front_of : ℕ → List ℕ → List ℕ
front_of at bytes = take at bytes ++ drop at empty_page

-- What the page has up to one place it has up to a later one; other pages are as before.
pub record PutsRun (old new : PackingState) (image : PageImage) (at end : ℕ) : Type 0 where
  pub later : at < end
  pub within : end ≤ page_size
  pub first : new.first ≡ old.first
  pub own : packed image.page old ≡ front_of at image.bytes → packed image.page new ≡ front_of end image.bytes
  pub others : (other : ℕ) → image.page ≢ other → packed other new ≡ packed other old
  pub few : begun new + at ≤ begun old + end

-- all pages are as after the image
pub record HasImage (old new : PackingState) (image : PageImage) : Type 0 where
  pub first : new.first ≡ old.first
  pub pages : (other : ℕ) → packed other new ≡ after_image other (packed other old) image
  pub few : begun new ≤ begun old + page_size

-- Of some images these are left: their pages rise and have had no record, and once they are put, all pages are those of all images.
pub record IsLeft (first : ℕ) (images rest : List PageImage) (s : PackingState) : Type 0 where
  pub low : ℕ
  pub rising : are_rising low rest ≡ true
  pub blank : (page : ℕ) → low ≤ page → packed page s ≡ empty_page
  pub after : (page : ℕ) → fold (after_image page) (packed page s) rest ≡ image_at page images
  pub first_is : s.first ≡ first
  pub few : begun s + page_size * length rest ≤ page_size * length images
