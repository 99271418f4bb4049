-- The one spelling of a block.
use Rattle.std.specs.Prelude.{◌≡◌, ℕ, ◌<◌, ◌≤◌, List, ◌∷◌, ◌++◌, length, Option, IfSome}
use Rattle.std.specs.List.{flat_map, AllByRecursion}
use Rattle.std.specs.Int.{w16, w32, w64, to_be_bytes}
use Rattle.pl_block.specs.Bounds.{last_lsn, longest_block}
use Rattle.pl_block.specs.declared.record.Record.{Record}
use Rattle.pl_block.specs.declared.record.Record.TheVariants.{Put, Zero}
use Rattle.pl_block.specs.Block.{Content, touched, IsRecord}

-- a count, and the partitions
abbrev pub annotations : List ℕ → List ℕ
annotations ps = to_be_bytes w16 (length ps) ++ flat_map (to_be_bytes w16) ps

-- kind and page, and of a Put offset, length, bytes
abbrev pub record_spelling : Record → List ℕ
record_spelling (Put page offset bytes) = 1 ∷ (to_be_bytes w32 page ++ (to_be_bytes w16 offset ++ (to_be_bytes w16 (length bytes) ++ bytes)))
record_spelling (Zero page) = 2 ∷ to_be_bytes w32 page

-- LSN, annotations, a count and the records
abbrev pub block_spelling : Content → List ℕ
block_spelling b = to_be_bytes w64 b.lsn ++ (annotations (touched b.records) ++ (to_be_bytes w16 (length b.records) ++ flat_map record_spelling b.records))

-- the LSN is in its range, each record is one, and the spelling is not too long
pub record IsBlock (b : Content) : Type 0 where
  pub positive : 0 < b.lsn
  pub in_range : b.lsn ≤ last_lsn
  pub each : AllByRecursion IsRecord b.records
  pub short : length (block_spelling b) ≤ longest_block

-- a block, and what is kept beside it: the partitions that its records touch, the length of its spelling, and the spelling or nothing
pub record AreParts (b : Content) (partitions : List ℕ) (len : ℕ) (spelling : Option (List ℕ)) : Type 0 where
  pub block : IsBlock b
  pub touched_by : partitions ≡ touched b.records
  pub counted : len ≡ length (block_spelling b)
  pub spelled : IfSome spelling (λ bytes. bytes ≡ block_spelling b)
