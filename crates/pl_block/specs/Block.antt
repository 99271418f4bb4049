-- What a block is: an LSN and records, and the partitions that they touch.
use Rattle.std.specs.Prelude.{ℕ, ◌+◌, ◌/◌, ◌^◌, ◌<◌, ◌≤◌, Bool, true, false, ◌&&◌, ◌==◌, nat_lt, if◌then◌else◌, List, [], ◌∷◌, length, fold, Option, None, Some}
use Rattle.std.specs.Cmp.Lexicographic.{pointwise}
use Rattle.std.specs.Str.{bytes_eq}
use Rattle.pl_block.specs.Bounds.{page_size}
use Rattle.pl_block.specs.declared.record.Record.{Record}
use Rattle.pl_block.specs.declared.record.Record.TheVariants.{Put, Zero}

-- a block as its LSN and its records
pub record Content : Type 0 where
  pub lsn : ℕ
  pub records : List Record

-- a test whether two records are one
abbrev pub same_record : Record → Record → Bool
same_record (Put p o b) (Put q u c) = p == q && (o == u && bytes_eq b c)
same_record (Zero p) (Zero q) = p == q
same_record (Put p o b) (Zero q) = false
same_record (Zero p) (Put q u c) = false

-- a test whether two blocks are one
abbrev pub same_block : Content → Content → Bool
same_block a b = a.lsn == b.lsn && pointwise same_record a.records b.records

-- a number that has this content, if any, is open to the block: it has none yet, or this block
abbrev pub is_open_to : Content → Option Content → Bool
is_open_to block None = true
is_open_to block (Some content) = same_block content block

-- the page that a record changes
abbrev pub changed_page : Record → ℕ
changed_page (Put page offset bytes) = page
changed_page (Zero page) = page

-- the partition of that page
abbrev pub partition_of : Record → ℕ
partition_of change = changed_page change / 65536

-- a rising list with one partition more, at its place, unless it is there
abbrev pub with_partition : ℕ → List ℕ → List ℕ
with_partition p [] = p ∷ []
with_partition p (q ∷ qs) = if nat_lt q p then q ∷ with_partition p qs else if q == p then q ∷ qs else p ∷ q ∷ qs

-- the partitions that records touch, rising, each once
abbrev pub touched : List Record → List ℕ
touched records = fold (λ ps r. with_partition (partition_of r) ps) [] records

-- pages are numbers of four bytes; a Put has bytes, and they end within its page
abbrev pub IsRecord : Record → Type 0
IsRecord (Put page offset bytes) = (page < 2 ^ 32) × (0 < length bytes) × (offset + length bytes ≤ page_size)
IsRecord (Zero page) = page < 2 ^ 32
