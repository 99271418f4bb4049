-- Blocks that make a whole page: what was there before decides no byte of it.
use Rattle.std.proofs.Common.{◌≡◌, ℕ, zero, suc, ◌+◌, ◌-◌, ◌≤◌, ◌∙◌, Bool, true, false, ◌&&◌, ◌||◌, cond, eqb, List, [], ◌∷◌, ◌++◌, length, take, drop, fold, replicate, Some, slice_get, refl, sym, ap, arith, length-set}
use mathlib.Core.Bool.{false≢true}
use Rattle.std.specs.List.{AllByRecursion, list_any}
use Rattle.std.proofs.lemmas.List.{drop_all}
use Rattle.std.proofs.lemmas.Map.Views.{exact_unsigned_eq}
use Rattle.std.proofs.lemmas.Option.{slice_get_within}
use Rattle.pl_block.specs.Block.{Content, IsRecord, changed_page}
use Rattle.pl_block.specs.Bounds.{page_size}
use Rattle.pl_block.specs.Spelling.{IsBlock}
use Rattle.pl_block.specs.declared.record.Record.{Record}
use Rattle.pl_block.specs.declared.record.Record.TheVariants.{Put, Zero}
use Rattle.pl_pages.specs.Page.{empty_page, changed, makes_page, is_image, after_record, after_block, page_of}
use Rattle.pl_pages.specs.State.{Version, AreVersions}
use Rattle.pl_pages.specs.Kept.{IsAt, version_at, with_block}
use Rattle.pl_pages.specs.Laws.{ImagesAreWhole}
use Rattle.pl_pages.proofs.Sizes.{IsPage, length-empty_page, one_sized, page_sized}
use Rattle.pl_pages.proofs.Replays.{block_more}
use Rattle.pl_pages.proofs.Frames.{replaced_true, with_block_stands, block_made}

-- bytes that are as many as a page has start at its first byte, and nothing is left of it
put_alone : (offset : ℕ) (bytes old : List ℕ) → offset + length bytes ≤ page_size → length bytes ≡ page_size → IsPage old → ((take offset old ++ bytes) ++ drop (offset + length bytes) old) ≡ (([] ++ bytes) ++ [])
put_alone offset bytes old within full sized =
    let first : offset ≡ 0 = omega (arith, within, full) in
    let none_left = drop_all (offset + length bytes) old (omega (arith, full, sized)) in
    ap (λ n. (take n old ++ bytes) ++ drop (offset + length bytes) old) first ∙ ap (λ rest. ([] ++ bytes) ++ rest) none_left

whole_record : (r : Record) (a b : List ℕ) → IsRecord r → makes_page r ≡ true → IsPage a → IsPage b → changed r a ≡ changed r b
whole_record (Put page offset bytes) a b is whole one other =
    let full = exact_unsigned_eq (length bytes) page_size whole in
    put_alone offset bytes a is.2 full one ∙ sym (put_alone offset bytes b is.2 full other)
whole_record (Zero page) a b is whole one other = let none : ℕ = 0 in ap (λ n. replicate n none) (one ∙ sym other)

abbrev makes : ℕ → Record → Bool
makes page r = eqb (changed_page r) page && makes_page r

whole_records : (page : ℕ) (rs : List Record) (a b : List ℕ) → AllByRecursion IsRecord rs → list_any (makes page) rs ≡ true → IsPage a → IsPage b → fold (after_record page) a rs ≡ fold (after_record page) b rs
whole_records page [] a b each some one other = absurd (false≢true some)
whole_records page (r ∷ rs) a b each some one other =
    by_case (eqb (changed_page r) page) (makes_page r) refl refl
    (λ later. whole_records page rs (after_record page a r) (after_record page b r) each.1 later (one_sized r a (eqb (changed_page r) page) each.0 one) (one_sized r b (eqb (changed_page r) page) each.0 other))
  where
    in_rest : makes page r ≡ false → list_any (makes page) rs ≡ true
    in_rest not_this = sym (ap (λ c. c || list_any (makes page) rs) not_this) ∙ some

    by_case : (ours whole : Bool) → eqb (changed_page r) page ≡ ours → makes_page r ≡ whole → (list_any (makes page) rs ≡ true → fold (after_record page) (after_record page a r) rs ≡ fold (after_record page) (after_record page b r) rs) → fold (after_record page) (after_record page a r) rs ≡ fold (after_record page) (after_record page b r) rs
    by_case true true is all later =
        ap (λ o. fold (after_record page) o rs)
        (ap (λ c. cond c (changed r a) a) is ∙ whole_record r a b each.0 all one other ∙ sym (ap (λ c. cond c (changed r b) b) is))
    by_case true false is all later = later (in_rest (ap (λ c. c && makes_page r) is ∙ all))
    by_case false whole is all later = later (in_rest (ap (λ c. c && makes_page r) is))

pub images_are_whole : ImagesAreWhole
images_are_whole page block a b is image one other = whole_records page block.records a b is.each image one other

-- ---- a version that begins at an image

first_blocks : (n : ℕ) (xs : List Content) → AllByRecursion IsBlock xs → AllByRecursion IsBlock (take n xs)
first_blocks zero xs all = tt
first_blocks (suc n) [] all = tt
first_blocks (suc n) (x ∷ xs) all = (all.0, first_blocks n xs all.1)

module _ (vs : List Version) (place page n : ℕ) (log : List Content) (blocks : AllByRecursion IsBlock log) (all : AreVersions vs log) (at : IsAt vs place page 0) (block : Content) (is : IsBlock block) (some : 1 ≤ n) (here : slice_get log (n - 1) ≡ Some block) (own : block.lsn ≡ n) (image : is_image page block ≡ true) where
  abbrev v : Version
  v = version_at vs place

  blank : v.bytes ≡ empty_page
  blank = (all place _ at.within).bytes ∙ ap (λ k. page_of v.page (take k log)) at.lsn

  end : n - 1 + 1 ≡ block.lsn
  end = omega (arith, own, some)

  made : after_block v.page v.bytes block ≡ page_of v.page (take block.lsn log)
  made =
      ap (λ bytes. after_block v.page bytes block) blank
      ∙ ap (λ p. after_block p empty_page block) at.page
      ∙ images_are_whole page block empty_page (page_of page (take (n - 1) log)) is image length-empty_page (page_sized page (take (n - 1) log) (first_blocks (n - 1) log blocks))
      ∙ block_more page empty_page log (n - 1) block here
      ∙ ap (λ k. page_of page (take k log)) end
      ∙ ap (λ p. page_of p (take block.lsn log)) (sym at.page)

  pub image_true : AreVersions (with_block vs place block) log
  image_true = replaced_true log vs (block_made v block) (record { within = omega (arith, own, some, slice_get_within log (n - 1) block here); bytes = made }) all place

  pub image_at : IsAt (with_block vs place block) place page n
  image_at =
      let stands = with_block_stands vs place block at.within in
      record {
        within = omega (arith, at.within, length-set vs place (block_made v block));
        page = ap (λ w. w.page) stands ∙ at.page;
        lsn = ap (λ w. w.lsn) stands ∙ own;
      }
