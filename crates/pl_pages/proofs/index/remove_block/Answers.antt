use Rattle.std.proofs.Common.{◌==◌, ◌∙◌, ◌≡◌, false, drop, sym, ap, subst, arith}
use Rattle.std.specs.List.{list_any}
use Rattle.std.proofs.lemmas.List.{drop_all}
use Rattle.pl_block.specs.Block.{changed_page}
use Rattle.pl_pages.specs.Index.{MayEndWith, listed, ends_with}
use Rattle.pl_pages.proofs.Listing.{none_left}
use Rattle.pl_pages.proofs.index.remove_block.Goals as goal

pub returns : goal.returns
returns c = record {
  value = λ page before fresh may.
      let items = c.records-change-items.result.now in
      let old = listed c.args.lists.now page in
      let lsn = c.lsn-lsn.result in
      let none : list_any (λ r. changed_page r == page) (drop c.loop-change.change-index items) ≡ false = ap (list_any (λ r. changed_page r == page)) (drop_all c.loop-change.change-index items (omega arith)) in
      let at_start : MayEndWith lsn (list_any (λ r. changed_page r == page) items) before old =
      subst (λ rs. MayEndWith lsn (list_any (λ r. changed_page r == page) rs) before old) (sym c.records-change-items.ensures.value)
      (subst (λ n. MayEndWith n (list_any (λ r. changed_page r == page) c.args.block.now.records) before old) (sym c.lsn-lsn.ensures.value) may) in
      none_left lsn _ before (listed c.loop-change.lists page) none
      (c.loop-change.invariant page before (ap (λ n. ends_with n before) c.lsn-lsn.ensures.value ∙ fresh) at_start);
}
