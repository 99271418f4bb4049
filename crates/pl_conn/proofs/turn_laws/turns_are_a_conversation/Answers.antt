use Rattle.pl_conn.proofs.Finishing.{all_turns}
use Rattle.pl_conn.proofs.turn_laws.turns_are_a_conversation.Goals as goal

pub returns : goal.returns
returns g c = record { law = all_turns _ }
