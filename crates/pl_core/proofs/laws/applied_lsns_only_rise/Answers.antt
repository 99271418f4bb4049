use Rattle.pl_core.proofs.Applying.{only_rise}
use Rattle.pl_core.proofs.laws.applied_lsns_only_rise.Goals as goal

pub returns : goal.returns
returns c = record { law = only_rise }
