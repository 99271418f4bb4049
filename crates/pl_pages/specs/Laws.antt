-- What follows from the definitions.
use Rattle.std.specs.Prelude.{◌≡◌, ℕ, ◌≤◌, Bool, true, List, ◌++◌, length, take}
use Rattle.std.specs.List.{AllByRecursion}
use Rattle.pl_block.specs.Block.{Content}
use Rattle.pl_block.specs.Bounds.{page_size}
use Rattle.pl_block.specs.Spelling.{IsBlock}
use Rattle.pl_pages.specs.Page.{after_block, is_image, page_of}
use Rattle.pl_pages.specs.State.{PagesState, FitsLog, chosen}

-- what fits a log fits each log that begins with it
abbrev pub FitsLongerLogs : Type 0
FitsLongerLogs = (pages : PagesState) (log more : List Content) → FitsLog pages log → FitsLog pages (log ++ more)

-- a page at an LSN of a log is that of each log that begins with it
abbrev pub PagesStay : Type 0
PagesStay = (page lsn : ℕ) (log more : List Content) → lsn ≤ length log → page_of page (take lsn (log ++ more)) ≡ page_of page (take lsn log)

-- the page of blocks has the bytes of a page
abbrev pub PagesKeepTheirSize : Type 0
PagesKeepTheirSize = (page : ℕ) (blocks : List Content) → AllByRecursion IsBlock blocks → length (page_of page blocks) ≡ page_size

-- a page after an image is the same, whatever it was before
abbrev pub ImagesAreWhole : Type 0
ImagesAreWhole = (page : ℕ) (block : Content) (a b : List ℕ) → IsBlock block → is_image page block ≡ true
    → length a ≡ page_size → length b ≡ page_size → after_block page a block ≡ after_block page b block

-- the LSN that a get is answered at
pub record AnswersReach : Type 0 where
  -- it is not below the one that was asked for
  pub reached : (applied lsn : ℕ) (exact : Bool) → lsn ≤ chosen applied lsn exact
  -- it is that one if the get is exact
  pub exact : (applied lsn : ℕ) → chosen applied lsn true ≡ lsn
  -- it is not above the end of a log that ends below neither
  pub within : (applied lsn hard : ℕ) (exact : Bool) → applied ≤ hard → lsn ≤ hard → chosen applied lsn exact ≤ hard
