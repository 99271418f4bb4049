use Rattle.std.proofs.Common.{◌≡◌, length, subst}
use Rattle.pl_block.specs.Bounds.{page_size}
use Rattle.pl_images.specs.Packing.{PackingState, packed}
use Rattle.pl_images.proofs.Sizes.{packed_sized}
use Rattle.pl_images.proofs.packing.Packing.are_pages.Goals as goal

pub returns : goal.returns
returns c = record {
  value = λ page.
      subst (λ (s : PackingState). length (packed page s) ≡ page_size) c.self.view_is
      (packed_sized page c.self.inside.blocks.items c.self.inside.records.items c.self.invariant.valid c.self.invariant.each);
}
