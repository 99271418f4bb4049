-- What is kept of pages, as contracts see it, and when it fits a log.
use Rattle.std.specs.Prelude.{◌≡◌, ◌≢◌, ℕ, ◌+◌, ◌/◌, ◌<◌, ◌≤◌, ◌==◌, Bool, ◌&&◌, not, nat_le, All, List, [], length, map, filter, min, take, unwrap_or, slice_index_or, if◌then◌else◌}
use Rattle.std.specs.List.{list_any, AllByRecursion}
use Rattle.std.specs.Ordering.{nat_cmp}
use Rattle.std.specs.FinMap as maps
use Rattle.pl_block.specs.Block.{Content, changed_page}
use Rattle.pl_block.specs.Bounds.{page_size}
use Rattle.pl_block.specs.Spelling.{IsBlock}
use Rattle.pl_pages.specs.Page.{page_of}

-- a page as it was at an LSN
pub record Version : Type 0 where
  pub page : ℕ
  pub lsn : ℕ
  pub bytes : List ℕ

-- The applied LSN of each partition, those after the end of the list being 0; how many blocks of the
-- log the index was made of, and the index, which has under a page the LSNs of those that change it;
-- the versions that are kept; how many chunks of 64 versions there may be.
pub record PagesState : Type 0 where
  pub applied : List ℕ
  pub indexed : ℕ
  pub index : maps.FinMap nat_cmp (List ℕ)
  pub versions : List Version
  pub chunks : ℕ

-- the applied LSN of a partition
abbrev pub applied_at : PagesState → ℕ → ℕ
applied_at pages partition = slice_index_or pages.applied partition 0

-- the LSN that a get is answered at: its own if it is exact or above the applied one
abbrev pub chosen : ℕ → ℕ → Bool → ℕ
chosen applied lsn exact = if not exact && nat_le lsn applied then applied else lsn

-- the LSN at which a page is given
abbrev pub chosen_lsn : PagesState → ℕ → ℕ → Bool → ℕ
chosen_lsn pages page lsn exact = chosen (applied_at pages (page / 65536)) lsn exact

-- a block changes the page
abbrev pub changes_page : ℕ → Content → Bool
changes_page page block = list_any (λ change. changed_page change == page) block.records

-- the LSNs of the blocks that change a page
abbrev pub lsns_of : ℕ → List Content → List ℕ
lsns_of page blocks = map (λ block. block.lsn) (filter (changes_page page) blocks)

-- the LSNs that the index has under a page
abbrev pub indexed_at : PagesState → ℕ → List ℕ
indexed_at pages page = unwrap_or (maps.get pages.index page) []

-- a version is its page at an LSN of the log
pub record IsVersion (log : List Content) (v : Version) : Type 0 where
  pub within : v.lsn ≤ length log
  pub bytes : v.bytes ≡ page_of v.page (take v.lsn log)

-- each is
abbrev pub AreVersions : List Version → List Content → Type 0
AreVersions vs log = All (IsVersion log) vs

-- What is kept of pages fits a log: no partition is applied above its end; the index was made of no
-- more blocks than it has, which are blocks, and has the LSNs of these; versions are pages of it.
pub record FitsLog (pages : PagesState) (log : List Content) : Type 0 where
  pub applied : (partition : ℕ) → applied_at pages partition ≤ length log
  pub indexed : pages.indexed ≤ length log
  pub blocks : AllByRecursion IsBlock (take pages.indexed log)
  pub index : (page : ℕ) → indexed_at pages page ≡ lsns_of page (take pages.indexed log)
  pub versions : AreVersions pages.versions log

-- No block changes the page up to the LSN; the index has the whole log, and there is a version, whose place may be taken.
pub record IsBlankThere (pages : PagesState) (log : List Content) (page lsn : ℕ) : Type 0 where
  pub none : lsns_of page (take lsn log) ≡ []
  pub whole : pages.indexed ≡ length log
  pub some : 0 < length pages.versions

-- the applied LSNs are the same
abbrev pub SameApplied : PagesState → PagesState → Type 0
SameApplied old new = (partition : ℕ) → applied_at new partition ≡ applied_at old partition

-- the pages fit the log, and may have as many chunks as before
pub record StillFits (old new : PagesState) (log : List Content) : Type 0 where
  pub fits : FitsLog new log
  pub chunks : new.chunks ≡ old.chunks

-- one partition was applied further by this many steps, but not above the end of the log; all others are as before
pub record IsAdvanced (old new : PagesState) (partition steps hard : ℕ) : Type 0 where
  pub applied : applied_at new partition ≡ min hard (applied_at old partition + steps)
  pub others : (other : ℕ) → other ≢ partition → applied_at new other ≡ applied_at old other

-- what a get gives: the LSN that is chosen, and the bytes of the page at that LSN of the log
pub record GivesPage (pages : PagesState) (log : List Content) (page lsn : ℕ) (exact : Bool) (at : ℕ) (bytes : List ℕ) : Type 0 where
  pub at_is : at ≡ chosen_lsn pages page lsn exact
  pub bytes_are : bytes ≡ page_of page (take (chosen_lsn pages page lsn exact) log)
  pub len : length bytes ≡ page_size
