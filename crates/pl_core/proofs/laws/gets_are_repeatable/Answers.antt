use Rattle.pl_core.proofs.Given.{are_repeatable}
use Rattle.pl_core.proofs.laws.gets_are_repeatable.Goals as goal

pub returns : goal.returns
returns c = record { law = are_repeatable c.order_laws.ensures.law c.pages_stay.ensures.law }
