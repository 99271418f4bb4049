use Rattle.pl_core.proofs.Joining.{pulls_join}
use Rattle.pl_core.proofs.laws.pulls_join.Goals as goal

pub returns : goal.returns
returns c = record { law = pulls_join c.order_laws.ensures.law c.pulls_join.ensures.law }
