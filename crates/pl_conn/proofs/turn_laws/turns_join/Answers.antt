use Rattle.pl_conn.proofs.Turning.{resumes_then}
use Rattle.pl_conn.proofs.turn_laws.turns_join.Goals as goal

pub returns : goal.returns
returns g c = record { law = resumes_then _ }
