use Rattle.std.proofs.Common.{ℕ, ◌==◌, ◌∙◌, ◌++◌, ◌∷◌, [], cond, sym, ap, subst, arith}
use Rattle.std.specs.List.{list_any}
use Rattle.pl_block.specs.Block.{changed_page}
use Rattle.pl_pages.specs.Index.{MayEndWith, listed, with_lsn, ends_with}
use Rattle.pl_pages.specs.State.{changes_page}
use Rattle.pl_pages.proofs.Listing.{added_once, any_more, any_first, partly, where_failed}
use Rattle.pl_pages.proofs.index.add_block.Goals as goal

pub returns-in_err-add-clause-err : goal.returns-in_err-add-clause-err
returns-in_err-add-clause-err c = where_failed c.from_residual.result ((page : ℕ) → MayEndWith c.args.block.now.lsn (changes_page page c.args.block.now) (listed c.args.lists.now page) (listed c.add.new.lists page)) (λ page.
    let block = c.args.block.now in
    let items = c.records-change-items.result.now in
    let lsn = c.lsn-lsn.result in
    let old = listed c.args.lists.now page in
    let new = listed c.add.new.lists page in
    subst (λ n. MayEndWith n (changes_page page block) old new) c.lsn-lsn.ensures.value
    (subst (λ rs. MayEndWith lsn (list_any (λ r. changed_page r == page) rs) old new) c.records-change-items.ensures.value
    (partly lsn old new _ _ (any_first (λ r. changed_page r == page) items c.loop-change.change-index) (c.in_err-add.ensures.err page ∙ c.loop-change.invariant page))))

pub loop-change-preserved : goal.loop-change-preserved
loop-change-preserved c = λ page.
    let items = c.records-change-items.result.now in
    let k = c.loop-change.change-index in
    let lsn = c.lsn-lsn.result in
    let old = listed c.args.lists.now page in
    let so_far = listed c.loop-change.lists page in
    c.in_ok-add.ensures.ok page
    ∙ ap (λ p. cond (p == page) (with_lsn lsn so_far) so_far) c.page.ensures.value
    ∙ added_once lsn old so_far _ _ (ap (λ n. ends_with n old) c.lsn-lsn.ensures.value ∙ c.requires.above page) (c.loop-change.invariant page)
    ∙ ap (λ b. cond b (old ++ lsn ∷ []) old) (sym (any_more (λ r. changed_page r == page) items k c.change-item.result (omega arith) c.change-item.is))
