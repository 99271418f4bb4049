use Rattle.pl_core.proofs.Missing.{misses_nothing}
use Rattle.pl_core.proofs.laws.pulls_miss_nothing.Goals as goal

pub returns : goal.returns
returns c = record { law = misses_nothing c.order_laws.ensures.law }
