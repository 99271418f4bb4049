use Rattle.std.proofs.Common.{◌≡◌, take, fold}
use Rattle.pl_pages.specs.Page.{after_record}
use Rattle.pl_images.proofs.replays.redo_block.Given as goal

-- the records so far have changed the page
abbrev pub invariant-loop-change : goal.invariant-loop-change
invariant-loop-change l = l.bytes ≡ fold (after_record l.page) l.fn.bytes (take l.change-index l.change-items)
