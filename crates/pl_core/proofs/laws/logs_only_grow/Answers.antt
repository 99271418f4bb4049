use Rattle.pl_core.proofs.Staying.{only_grow}
use Rattle.pl_core.proofs.laws.logs_only_grow.Goals as goal

pub returns : goal.returns
returns c = record { law = only_grow }
