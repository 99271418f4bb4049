use Rattle.pl_conn.proofs.Among.{among_others, joins}
use Rattle.pl_conn.proofs.turn_laws.turns_among_others_are_a_conversation.Goals as goal

pub returns : goal.returns
returns g c = record { join = joins _; law = among_others _ }
