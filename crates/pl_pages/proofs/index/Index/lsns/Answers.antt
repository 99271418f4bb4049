use Rattle.std.proofs.Common.{sym, ap, ◌∙◌}
use Rattle.pl_pages.specs.Index.{list_in, lsns_at}
use Rattle.pl_pages.proofs.Listing.{lists_seen}
use Rattle.pl_pages.proofs.index.Index.lsns.Goals as goal

pub returns-in-Some : goal.returns-in-Some
returns-in-Some c = record {
  value = c.as_slice.ensures.value ∙ ap list_in c.in-Some.ensures.value ∙ sym (lists_seen c.self.inside.lsns c.args.page) ∙ ap (λ s. lsns_at s c.args.page) c.self.view_is;
}

pub returns-in-None : goal.returns-in-None
returns-in-None c = record {
  value = ap list_in c.in-None.ensures.value ∙ sym (lists_seen c.self.inside.lsns c.args.page) ∙ ap (λ s. lsns_at s c.args.page) c.self.view_is;
}
