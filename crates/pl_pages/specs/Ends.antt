-- What is left of pages once the bytes that they lent are given back.
use Rattle.std.specs.Prelude.{◌≡◌, List}
use Rattle.std.specs.Borrow.{MutBor, Fml}
use Rattle.std.specs.Io.BufRead.{Rests}
use Rattle.pl_block.specs.Block.{Content}
use Rattle.pl_pages.specs.contracts.pages.Pages.{the_row}
use Rattle.pl_pages.specs.State.{PagesState, FitsLog, SameApplied}

-- they fit the log, and the applied LSNs and the number of chunks are what they were
pub record FitsUnchanged (old new : PagesState) (log : List Content) : Type 0 where
  pub fits : FitsLog new log
  pub applied : SameApplied old new
  pub chunks : new.chunks ≡ old.chunks

-- so they are, whatever the call gave
abbrev pub EndsFitting : MutBor PagesState → List Content → Fml
EndsFitting pages log = Rests the_row pages (λ last. FitsUnchanged pages.now last log)
