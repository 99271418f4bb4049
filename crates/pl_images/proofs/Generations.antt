-- Logs that begin with images of a base, and go on with the records after it.
use Rattle.std.proofs.Common.{◌≡◌, ℕ, ◌+◌, ◌-◌, ◌<◌, ◌≤◌, ◌∙◌, Bool, true, false, cond, ltb, Option, None, Some, List, [], ◌∷◌, ◌++◌, length, map, take, drop, fold, refl, sym, ap, arith}
use Rattle.std.proofs.lemmas.Bool.{ltb-false}
use Rattle.std.proofs.lemmas.List.{take-append-drop, take_at, drop_at, take-map}
use Rattle.std.proofs.lemmas.List.Folds.{fold-map}
use Rattle.std.proofs.lemmas.List.Sums.{fold-append}
use Rattle.std.proofs.lemmas.Option.{same_Some}
use Rattle.pl_block.specs.Block.{Content}
use Rattle.pl_block.specs.Bounds.{last_lsn}
use Rattle.pl_block.specs.declared.record.Record.{Record}
use Rattle.pl_pages.specs.Page.{after_block, after_blocks, after_record, empty_page, page_of}
use Rattle.pl_images.specs.Position.{moved, position_at}
use Rattle.pl_images.specs.Laws.{GenerationsContinue, HaveSameRecords, IsGeneration}
use Rattle.pl_images.proofs.Putting.{take_add}

-- blocks change a page by their records alone
same_changes : (page : ℕ) (old : List ℕ) (some others : List Content) → HaveSameRecords some others → after_blocks page old some ≡ after_blocks page old others
same_changes page old some others same =
    let by_records = λ (xs : List ℕ) (rs : List Record). fold (after_record page) xs rs in
    sym (fold-map by_records (λ (block : Content). block.records) old some)
    ∙ ap (fold by_records old) same
    ∙ fold-map by_records (λ (block : Content). block.records) old others

module _ (base page : ℕ) (log images : List Content) (is_base : page_of page images ≡ page_of page (take base log)) where
  -- the blocks after the images do to the page what those after the base do
  continued : (rest after : List Content) → HaveSameRecords rest after → page_of page (images ++ rest) ≡ page_of page (take base log ++ after)
  continued rest after same =
      fold-append (after_block page) empty_page images rest
      ∙ ap (λ old. after_blocks page old rest) is_base
      ∙ same_changes page (page_of page (take base log)) rest after same
      ∙ sym (fold-append (after_block page) empty_page (take base log) after)

whole_log : (base page : ℕ) (log images rest : List Content) → IsGeneration base log images rest → page_of page (images ++ rest) ≡ page_of page log
whole_log base page log images rest is =
    continued base page log images (is.pages page) rest (drop base log) is.after ∙ ap (page_of page) (take-append-drop base log)

moved_by : (start to n m : ℕ) → moved start to n ≡ Some m → (start ≤ n) × (m ≡ to + (n - start))
moved_by start to n m e = by_case (ltb n start) (ltb last_lsn (to + (n - start))) refl e
  where
    by_case : (below above : Bool) → ltb n start ≡ below → cond below None (cond above None (Some (to + (n - start)))) ≡ Some m → (start ≤ n) × (m ≡ to + (n - start))
    by_case true above is same = absurd cc
    by_case false true is same = absurd cc
    by_case false false is same = (ltb-false n start is, sym (same_Some _ _ same))

at_position : (base page lsn position : ℕ) (log images rest : List Content) → IsGeneration base log images rest → position_at base (length images) lsn ≡ Some position
    → page_of page (take lsn (images ++ rest)) ≡ page_of page (take position log)
at_position base page lsn position log images rest is there =
    let m = moved_by (length images) base lsn position there in
    let n = lsn - length images in
    let sum : lsn ≡ length images + n = omega (arith, m.0) in
    let front : take lsn (images ++ rest) ≡ images ++ take n rest =
    ap (λ k. take k (images ++ rest)) sum ∙ take_add (length images) n (images ++ rest)
    ∙ ap (λ xs. xs ++ take n (drop (length images) (images ++ rest))) (take_at images rest (length images) refl)
    ∙ ap (λ xs. images ++ take n xs) (drop_at images rest (length images) refl) in
    let same : HaveSameRecords (take n rest) (take n (drop base log)) =
    sym (take-map (λ (block : Content). block.records) n rest) ∙ ap (take n) is.after ∙ take-map (λ (block : Content). block.records) n (drop base log) in
    ap (page_of page) front
    ∙ continued base page log images (is.pages page) (take n rest) (take n (drop base log)) same
    ∙ ap (page_of page) (sym (take_add base n log) ∙ ap (λ k. take k log) (sym m.1))

pub generations_continue : GenerationsContinue
generations_continue = record { whole = whole_log; each = at_position }
