use Rattle.std.proofs.Common.{◌≡◌, ◌+◌, ◌∙◌, ◌++◌, ◌∷◌, [], cond, false, sym, ap, subst}
use Rattle.pl_pages.specs.Index.{AreUpTo, ends_with, listed, lsns_at}
use Rattle.pl_pages.specs.State.{changes_page}
use Rattle.pl_pages.proofs.Listing.{lists_seen, not_last}
use Rattle.pl_pages.proofs.index.Index.enter.Goals as goal

pub invariant_of-self-in-Err : goal.invariant_of-self-in-Err
invariant_of-self-in-Err c = λ page.
    let i = c.self.inside in
    let lsn = c.args.block.now.lsn in
    let fresh : ends_with lsn (listed i.lsns page) ≡ false = not_last i.entered lsn (listed i.lsns page) (c.self.invariant page) (c.requires.next ∙ ap (λ s. s.entered + 1) (sym c.self.view_is)) in
    subst (AreUpTo i.entered) (sym (c.remove_block.ensures.value page (listed i.lsns page) fresh (c.in-Err.ensures.err page))) (c.self.invariant page)

pub returns-in-Ok-clause-ok : goal.returns-in-Ok-clause-ok
returns-in-Ok-clause-ok c = record {
  entered = c.lsn-self-inside.ensures.value ∙ c.requires.next;
  valid = c.add_block.ensures.valid;
  lsns = λ page.
      let seen = ap (λ s. lsns_at s page) (sym c.self.view_is) ∙ lists_seen c.self.inside.lsns page in
      let lsn = c.args.block.now.lsn in
      lists_seen c.add_block.new.lists page ∙ c.in-Ok.ensures.ok page
      ∙ ap (λ xs. cond (changes_page page c.args.block.now) (xs ++ lsn ∷ []) xs) (sym seen);
}

pub returns-in-Err-clause-err : goal.returns-in-Err-clause-err
returns-in-Err-clause-err c = record {
  entered = ap (λ s. s.entered) c.self.view_is;
  lsns = λ page.
      let i = c.self.inside in
      let lsn = c.args.block.now.lsn in
      let fresh : ends_with lsn (listed i.lsns page) ≡ false = not_last i.entered lsn (listed i.lsns page) (c.self.invariant page) (c.requires.next ∙ ap (λ s. s.entered + 1) (sym c.self.view_is)) in
      lists_seen c.remove_block.new.lists page ∙ c.remove_block.ensures.value page (listed i.lsns page) fresh (c.in-Err.ensures.err page)
      ∙ sym (lists_seen i.lsns page) ∙ ap (λ s. lsns_at s page) c.self.view_is;
}
