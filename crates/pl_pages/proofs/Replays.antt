-- Replays of a log that grows, and of one block more.
use Rattle.std.proofs.Common.{◌≡◌, ℕ, suc, ◌+◌, ◌≤◌, Bool, true, false, ◌&&◌, not, cond, leb, List, [], ◌∷◌, ◌++◌, length, take, Some, slice_get, refl, sym, ap, subst, ◌∙◌, arith, length-append}
use Rattle.std.proofs.lemmas.Bool.{leb-true}
use Rattle.std.proofs.lemmas.Option.{slice_get_within, get_or_from_slice_get}
use Rattle.std.proofs.Math.Seq.{take-suc}
use Rattle.std.proofs.lemmas.List.Sums.{fold-append}
use Rattle.std.specs.List.{AllByRecursion}
use Rattle.std.proofs.lemmas.List.{take-append-le}
use Rattle.pl_block.specs.Block.{Content}
use Rattle.pl_block.specs.Spelling.{IsBlock}
use Rattle.pl_pages.specs.Page.{after_blocks, page_of, after_block, empty_page}
use Rattle.pl_pages.specs.State.{Version, PagesState, IsVersion, FitsLog, indexed_at, lsns_of}
use Rattle.pl_pages.specs.Laws.{AnswersReach}

-- a page at an LSN of a log is that of each longer log
pub page_of_longer : (page lsn : ℕ) (log more : List Content) → lsn ≤ length log → page_of page (take lsn (log ++ more)) ≡ page_of page (take lsn log)
page_of_longer page lsn log more within = ap (page_of page) (take-append-le lsn log more within)

version_of_longer : (log more : List Content) (v : Version) → IsVersion log v → IsVersion (log ++ more) v
version_of_longer log more v is = record {
  within = omega (arith, is.within, length-append log more);
  bytes = is.bytes ∙ sym (page_of_longer v.page v.lsn log more is.within);
}

pub fits_longer : (pages : PagesState) (log more : List Content) → FitsLog pages log → FitsLog pages (log ++ more)
fits_longer pages log more fits = record {
  applied = λ partition. omega (arith, fits.applied partition, length-append log more);
  indexed = omega (arith, fits.indexed, length-append log more);
  blocks = subst (AllByRecursion IsBlock) (sym (take-append-le pages.indexed log more fits.indexed)) fits.blocks;
  index = λ page. fits.index page ∙ ap (lsns_of page) (sym (take-append-le pages.indexed log more fits.indexed));
  versions = λ k d within. version_of_longer log more _ (fits.versions k d within);
}

-- pages of which none was applied, indexed or kept fit every log
pub nothing_fits : (s : PagesState) (log : List Content) → s.applied ≡ [] → s.indexed ≡ 0 → ((page : ℕ) → indexed_at s page ≡ []) → s.versions ≡ [] → FitsLog s log
nothing_fits s log none no_blocks no_lsns no_versions = record {
  applied = λ partition. rw none (omega arith);
  indexed = omega (arith, no_blocks);
  blocks = subst (λ n. AllByRecursion IsBlock (take n log)) (sym no_blocks) tt;
  index = λ page. no_lsns page ∙ ap (λ n. lsns_of page (take n log)) (sym no_blocks);
  versions = λ k d within. absurd (omega (arith, within, ap length no_versions));
}

-- an answer is not below what was asked for
answered : (applied lsn : ℕ) (exact passed : Bool) → leb lsn applied ≡ passed → lsn ≤ cond (not exact && passed) applied lsn
answered applied lsn true passed e = omega arith
answered applied lsn false true e = leb-true lsn applied e
answered applied lsn false false e = omega arith

-- an answer is not above the end of the log
answered_within : (applied lsn hard : ℕ) (later : Bool) → applied ≤ hard → lsn ≤ hard → cond later applied lsn ≤ hard
answered_within applied lsn hard true one other = one
answered_within applied lsn hard false one other = other

pub answers_reach : AnswersReach
answers_reach = record {
  reached = λ applied lsn exact. answered applied lsn exact (leb lsn applied) refl;
  exact = λ applied lsn. refl;
  within = λ applied lsn hard exact. answered_within applied lsn hard (not exact && leb lsn applied);
}

-- the blocks up to one, with that one
pub take_block : (log : List Content) (k : ℕ) (block : Content) → slice_get log k ≡ Some block → take (k + 1) log ≡ take k log ++ block ∷ []
take_block log k block is =
    let within = slice_get_within log k block is in
    let more : k + 1 ≡ suc k = omega arith in
    ap (λ n. take n log) more ∙ take-suc log k block within ∙ ap (λ b. take k log ++ b ∷ []) (get_or_from_slice_get log k block block is)

-- the replay of one block more
pub block_more : (page : ℕ) (old : List ℕ) (log : List Content) (k : ℕ) (block : Content) → slice_get log k ≡ Some block → after_block page (after_blocks page old (take k log)) block ≡ after_blocks page old (take (k + 1) log)
block_more page old log k block is = sym (ap (after_blocks page old) (take_block log k block is) ∙ fold-append (after_block page) old (take k log) (block ∷ []))

-- a version with the changes of the next block
pub block_true : (log : List Content) (v : Version) (k : ℕ) (block : Content) → IsVersion log v → v.lsn ≡ k → slice_get log k ≡ Some block → block.lsn ≡ k + 1 → IsVersion log (record { page = v.page; lsn = block.lsn; bytes = after_block v.page v.bytes block })
block_true log v k block is at here numbered = record {
  within = omega (arith, numbered, slice_get_within log k block here);
  bytes =
      ap (λ bytes. after_block v.page bytes block) (is.bytes ∙ ap (λ n. page_of v.page (take n log)) at)
      ∙ block_more v.page empty_page log k block here
      ∙ ap (λ n. page_of v.page (take n log)) (sym numbered);
}
