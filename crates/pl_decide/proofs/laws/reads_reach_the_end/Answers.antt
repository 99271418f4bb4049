use Rattle.pl_decide.proofs.Each.{rows_allow_own}
use Rattle.pl_decide.proofs.Reached.{reach_the_end, requests_ask_at}
use Rattle.pl_decide.proofs.laws.reads_reach_the_end.Goals as goal

pub returns : goal.returns
returns c = record { reach = reach_the_end; own = rows_allow_own; same = requests_ask_at }
