-- Images: whole pages at one position, from which a log may begin.
use Rattle.std.specs.Prelude.{◌≡◌, ℕ, ◌+◌, ◌*◌, ◌≤◌, ◌==◌, Bool, true, ◌&&◌, nat_le, List, [], ◌∷◌, length, fold, if◌then◌else◌}
use Rattle.std.specs.List.{AllByRecursion}
use Rattle.pl_block.specs.Block.{Content}
use Rattle.pl_block.specs.Bounds.{page_size}
use Rattle.pl_block.specs.Numbered.{AreNumbered}
use Rattle.pl_block.specs.Spelling.{IsBlock}
use Rattle.pl_pages.specs.Page.{empty_page, page_of}

-- a page and its bytes
pub record PageImage : Type 0 where
  pub page : ℕ
  pub bytes : List ℕ

-- a page after an image, which replaces all of it if it is of this page
abbrev pub after_image : ℕ → List ℕ → PageImage → List ℕ
after_image page old image = if image.page == page then image.bytes else old

-- the page that images have: the bytes of its image, or zeros if it has none
abbrev pub image_at : ℕ → List PageImage → List ℕ
image_at page images = fold (after_image page) empty_page images

-- the pages rise, the first being low or above it, so each has one image
abbrev pub are_rising : ℕ → List PageImage → Bool
are_rising low [] = true
are_rising low (image ∷ images) = nat_le low image.page && are_rising (image.page + 1) images

-- blocks with the LSNs from first on, whose pages are those of the images
pub record Makes (first : ℕ) (images : List PageImage) (blocks : List Content) : Type 0 where
  pub pages : (page : ℕ) → page_of page blocks ≡ image_at page images
  pub numbered : AreNumbered first blocks
  pub valid : AllByRecursion IsBlock blocks
  pub few : length blocks ≤ page_size * length images
