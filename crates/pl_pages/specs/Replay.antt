-- What is so before and after a version is made by replay.
use Rattle.std.specs.Prelude.{◌≡◌, ℕ, ◌<◌, ◌≤◌, List, length, take}
use Rattle.std.specs.List.{AllByRecursion}
use Rattle.pl_block.specs.Block.{Content}
use Rattle.pl_block.specs.Numbered.{AreNumbered}
use Rattle.pl_block.specs.Spelling.{IsBlock}
use Rattle.pl_log.specs.State.{LogState}
use Rattle.pl_pages.specs.Page.{page_of}
use Rattle.pl_pages.specs.State.{Version, AreVersions, lsns_of}
use Rattle.pl_pages.specs.Kept.{VersionsState, IsAt, version_at}
use Rattle.pl_pages.specs.Index.{IndexState, IsAfterChanges, IsIndex}
use Rattle.pl_pages.specs.declared.versions.Found.{Found}

-- What stays: the log is as before, the versions are pages of it, and there may be as many chunks as before.
pub record KeepsVersions (log new_log : LogState) (old new : VersionsState) : Type 0 where
  pub log_is : new_log ≡ log
  pub truth : AreVersions new.versions log.hardened
  pub chunks : new.chunks ≡ old.chunks

-- the index has the LSNs of blocks of the log, and the versions are pages of it
pub record AreOfLog (index : IndexState) (versions : List Version) (log : List Content) : Type 0 where
  pub index_is : IsIndex index log
  pub truth : AreVersions versions log

-- the versions are pages of the log, which has blocks, numbered from 1 on
pub record AreOfBlocks (versions : List Version) (log : List Content) : Type 0 where
  pub numbered : AreNumbered 1 log
  pub blocks : AllByRecursion IsBlock log
  pub truth : AreVersions versions log

-- the blocks of the log are numbered from 1 on, and these are the LSNs of those that change the page
pub record AreLsnsOf (page : ℕ) (lsns : List ℕ) (log : List Content) : Type 0 where
  pub numbered : AreNumbered 1 log
  pub all : lsns ≡ lsns_of page log

-- the versions are pages of the log, and the one at the place has the changes of the first i blocks that change the page
pub record IsTrueAfter (versions : List Version) (place page : ℕ) (log : List Content) (i : ℕ) : Type 0 where
  pub truth : AreVersions versions log
  pub after : IsAfterChanges versions place page log i

-- what was found is a version of the page, at this LSN or below
pub record IsUpTo (versions : List Version) (page lsn : ℕ) (found : Found) : Type 0 where
  pub at : IsAt versions found.place page found.lsn
  pub below : found.lsn ≤ lsn

-- there is a version at the place, and it has the bytes of the page at this LSN
pub record HasPage (versions : List Version) (place page lsn : ℕ) (log : List Content) : Type 0 where
  pub within : place < length versions
  pub bytes : (version_at versions place).bytes ≡ page_of page (take lsn log)
