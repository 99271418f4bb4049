use Rattle.std.proofs.Common.{◌≡◌, ℕ, ◌++◌, ◌∷◌, [], ◌==◌, take, if◌then◌else◌}
use Rattle.std.specs.List.{list_any}
use Rattle.pl_block.specs.Block.{changed_page}
use Rattle.pl_pages.specs.Index.{listed}
use Rattle.pl_pages.proofs.index.add_block.Given as goal

-- the LSN is under the pages of the records so far
abbrev pub invariant-loop-change : goal.invariant-loop-change
invariant-loop-change l = (page : ℕ) → listed l.lists page ≡ (if list_any (λ r. changed_page r == page) (take l.change-index l.change-items) then listed l.fn.lists page ++ l.lsn ∷ [] else listed l.fn.lists page)
