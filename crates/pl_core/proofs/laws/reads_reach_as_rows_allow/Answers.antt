use Rattle.pl_core.proofs.Asking.{reads_reach, reach_hardened, reads_above}
use Rattle.pl_core.proofs.laws.reads_reach_as_rows_allow.Goals as goal

pub returns : goal.returns
returns c = let order = c.order_laws.ensures.law in record { exact = reads_reach order; within = reach_hardened order; only = reads_above order c.lower_lsns_are_allowed.ensures.law }
