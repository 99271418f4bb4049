use Rattle.pl_conn.proofs.Reaching.{reaches_more}
use Rattle.pl_conn.proofs.lines.Lines.turn_due.Goals as goal

pub loop-preserved : goal.loop-preserved
loop-preserved g c = (c.turn_at.ensures.own, reaches_more _ _ _ _ c.loop.invariant.1 c.turn_at.ensures.reaches)
