use Rattle.pl_conn.proofs.Reaching.{reaches_more}
use Rattle.pl_conn.proofs.lines.Lines.turn_ready.Goals as goal

pub loop-event-preserved : goal.loop-event-preserved
loop-event-preserved g c = (c.turn_event.ensures.own, reaches_more _ _ _ _ c.loop-event.invariant.1 c.turn_event.ensures.reaches)
