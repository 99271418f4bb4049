-- What records do to a page, and a page as the replay of blocks.
use Rattle.std.specs.Prelude.{ℕ, ◌+◌, ◌==◌, ◌≤◌, Bool, true, ◌&&◌, List, ◌++◌, length, take, drop, replicate, fold, if◌then◌else◌}
use Rattle.std.specs.List.{list_any}
use Rattle.pl_block.specs.Block.{Content, changed_page}
use Rattle.pl_block.specs.Bounds.{page_size}
use Rattle.pl_block.specs.declared.record.Record.{Record}
use Rattle.pl_block.specs.declared.record.Record.TheVariants.{Put, Zero}

-- a page that nothing changed
unfoldable pub empty_page : List ℕ
empty_page = replicate page_size 0

-- its page after a record: a Put replaces the bytes from its offset on, a Zero makes each byte 0
abbrev pub changed : Record → List ℕ → List ℕ
changed (Put page offset bytes) old = take offset old ++ bytes ++ drop (offset + length bytes) old
changed (Zero page) old = replicate (length old) 0

-- what a record writes ends within this many bytes; a Zero writes what is there
abbrev pub EndsWithin : ℕ → Record → Type 0
EndsWithin len (Put page offset bytes) = offset + length bytes ≤ len
EndsWithin len (Zero page) = Unit {0}

-- a page after a record of any page
abbrev pub after_record : ℕ → List ℕ → Record → List ℕ
after_record page old change = if changed_page change == page then changed change old else old

-- a record makes the whole page, whatever was there: a Zero, or a Put of as many bytes as a page has
abbrev pub makes_page : Record → Bool
makes_page (Put page offset bytes) = length bytes == page_size
makes_page (Zero page) = true

-- a block has a record that makes the whole page, so that its replay may begin there
abbrev pub is_image : ℕ → Content → Bool
is_image page block = list_any (λ change. changed_page change == page && makes_page change) block.records

-- a page after the records of a block, in their order
abbrev pub after_block : ℕ → List ℕ → Content → List ℕ
after_block page old block = fold (after_record page) old block.records

-- a page after blocks, in their order
abbrev pub after_blocks : ℕ → List ℕ → List Content → List ℕ
after_blocks page old blocks = fold (after_block page) old blocks

-- the page of blocks: zeros, changed by each of their records of the page, in order
abbrev pub page_of : ℕ → List Content → List ℕ
page_of page blocks = after_blocks page empty_page blocks
