use Rattle.pl_conn.proofs.Reaching.{reaches_more}
use Rattle.pl_conn.proofs.worker.Worker.rounds.Goals as goal

pub loop-preserved : goal.loop-preserved
loop-preserved g c = (c.round.ensures.own, reaches_more _ _ _ _ c.loop.invariant.1 c.round.ensures.reaches)

pub returns-then-not-round-clause-reaches : goal.returns-then-not-round-clause-reaches
returns-then-not-round-clause-reaches g c = reaches_more _ _ _ _ c.loop.invariant.1 c.round.ensures.reaches
