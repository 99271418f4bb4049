use Rattle.std.proofs.Common.{nat_eq, ap, ◌∙◌}
use Rattle.std.specs.Map.{lookup}
use Rattle.pl_pages.specs.Index.{list_in}
use Rattle.pl_pages.proofs.Listing.{lists_seen}
use Rattle.pl_pages.proofs.index.Index.new.Goals as goal

pub returns-clause-lsns : goal.returns-clause-lsns
returns-clause-lsns c = λ page. lists_seen c.new.result page ∙ ap (λ es. list_in (lookup (nat_eq page) es)) c.new.ensures.empty
