-- What ties blocks to bytes: a block has one spelling, and nothing else is read as it.
use Rattle.std.specs.Prelude.{◌≡◌, ℕ, ◌<◌, List, slice_index, Ok}
use Rattle.pl_block.specs.Block.{Content}
use Rattle.pl_block.specs.Spelling.{IsBlock, block_spelling}
use Rattle.pl_block.specs.Reading.{block_reading}

-- each number of the list is a byte
abbrev pub AreBytes : List ℕ → Type 0
AreBytes bytes = (i : ℕ) → slice_index bytes i < 256

-- a block and its spelling determine one another
pub record OneSpelling : Type 0 where
  -- a block is read again from its spelling
  pub again : (b : Content) → IsBlock b → block_reading (block_spelling b) ≡ Ok b
  -- what is read as a block is its spelling
  pub spelled : (bytes : List ℕ) (b : Content) → AreBytes bytes → block_reading bytes ≡ Ok b → IsBlock b × (bytes ≡ block_spelling b)
  -- no two blocks have one spelling
  pub same : (a b : Content) → IsBlock a → IsBlock b → block_spelling a ≡ block_spelling b → a ≡ b
