use Rattle.std.proofs.Common.{◌≡◌, take, fold, length}
use Rattle.pl_block.specs.Bounds.{page_size}
use Rattle.pl_pages.specs.Page.{after_blocks}
use Rattle.pl_images.proofs.replays.replay.Given as goal

-- the blocks so far have changed the page
abbrev pub invariant-loop-block : goal.invariant-loop-block
invariant-loop-block l = record {
  value : l.bytes ≡ after_blocks l.page l.fn.bytes (take l.block-index l.blocks);
  len : length l.bytes ≡ page_size;
}
