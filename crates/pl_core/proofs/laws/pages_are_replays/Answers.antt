use Rattle.pl_core.proofs.Given.{are_replays}
use Rattle.pl_core.proofs.laws.pages_are_replays.Goals as goal

pub returns : goal.returns
returns c = record { law = are_replays c.order_laws.ensures.law }
