use Rattle.std.proofs.Common.{drop}
use Rattle.pl_images.specs.Packing.{IsLeft}
use Rattle.pl_images.proofs.making.blocks_of.Given as goal

-- the images from this one on are left
abbrev pub invariant-loop-image : goal.invariant-loop-image
invariant-loop-image l = IsLeft l.fn.first l.images (drop l.image-index l.images) l.packing
