use Rattle.std.proofs.Common.{◌≡◌, drop}
use Rattle.pl_images.specs.Image.{are_rising}
use Rattle.pl_images.proofs.image.are_rising.Given as goal

-- the images that are left decide
abbrev pub invariant-loop-image : goal.invariant-loop-image
invariant-loop-image l = are_rising l.low (drop l.image-index l.images) ≡ are_rising 0 l.images
