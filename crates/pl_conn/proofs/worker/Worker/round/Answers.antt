use Rattle.pl_conn.proofs.Reaching.{reaches_more}
use Rattle.pl_conn.proofs.worker.Worker.round.Goals as goal

pub returns-then-is_open-clause-reaches : goal.returns-then-is_open-clause-reaches
returns-then-is_open-clause-reaches g c = reaches_more _ _ _ _ c.turn_ready.ensures.reaches c.turn_due.ensures.reaches

pub returns-else-is_open-clause-reaches : goal.returns-else-is_open-clause-reaches
returns-else-is_open-clause-reaches g c = reaches_more _ _ _ _ c.turn_ready.ensures.reaches c.turn_due.ensures.reaches
