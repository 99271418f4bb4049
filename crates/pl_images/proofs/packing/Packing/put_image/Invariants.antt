use Rattle.std.proofs.Common.{◌≡◌, ◌≢◌, ℕ, ◌+◌, ◌-◌, ◌≤◌}
use Rattle.pl_block.specs.Bounds.{page_size}
use Rattle.pl_images.specs.Packing.{begun, front_of, packed}
use Rattle.pl_images.proofs.packing.Packing.put_image.Given as goal

-- the page has the bytes of the image up to the place, and other pages are as before
abbrev pub invariant-loop-at : goal.invariant-loop-at
invariant-loop-at l = record {
  within : l.at ≤ page_size;
  first : l.self.first ≡ l.fn.self.first;
  own : packed l.image.page l.self ≡ front_of l.at l.image.bytes;
  others : (other : ℕ) → l.image.page ≢ other → packed other l.self ≡ packed other l.fn.self;
  few : begun l.self ≤ begun l.fn.self + l.at;
}

abbrev pub decreases-loop-at : goal.decreases-loop-at
decreases-loop-at l = 8192 - l.at
