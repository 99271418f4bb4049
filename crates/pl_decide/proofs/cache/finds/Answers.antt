use Rattle.std.proofs.Common.{ap, ◌∙◌}
use Rattle.pl_table.specs.Tables.FirstMatch.{first_match_from}
use Rattle.pl_decide.proofs.Same.{tells-found}
use Rattle.pl_decide.proofs.cache.finds.Goals as goal

pub returns : goal.returns
returns c = record { exact = tells-found c.first_match_of.result _ c.args.found c.eq.result c.eq.ensures (c.first_match_of.ensures.value ∙ ap (first_match_from 1 c.args.table.now.rows) c.asking.ensures.value) }
