use Rattle.std.proofs.Common.{◌≡◌, ℕ, List, false, drop, ◌==◌}
use Rattle.std.specs.List.{list_any}
use Rattle.pl_block.specs.Block.{changed_page}
use Rattle.pl_pages.specs.Index.{listed, ends_with, MayEndWith}
use Rattle.pl_pages.proofs.index.remove_block.Given as goal

-- the LSN may be under the pages of the records that are left
abbrev pub invariant-loop-change : goal.invariant-loop-change
invariant-loop-change l = (page : ℕ) (before : List ℕ) → ends_with l.lsn before ≡ false
    → MayEndWith l.lsn (list_any (λ r. changed_page r == page) l.change-items) before (listed l.fn.lists page)
    → MayEndWith l.lsn (list_any (λ r. changed_page r == page) (drop l.change-index l.change-items)) before (listed l.lists page)
