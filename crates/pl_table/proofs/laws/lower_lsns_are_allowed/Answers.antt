use Rattle.pl_table.proofs.Ends.{lower_lsns}
use Rattle.pl_table.proofs.laws.lower_lsns_are_allowed.Goals as goal

pub returns : goal.returns
returns c = record { law = lower_lsns }
