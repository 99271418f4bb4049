use Rattle.pl_conn.proofs.Rounds.{going_more, works_ended}
use Rattle.pl_conn.proofs.page_server.PageServer.advance_rounds.Goals as goal

pub loop-round-preserved : goal.loop-round-preserved
loop-round-preserved g c =
    (c.round.ensures.own, going_more _ _ _ _ _ _ _ _ c.loop-round.invariant.1 c.if-not-round.ensures.value)

pub returns-then-not-round-clause-value : goal.returns-then-not-round-clause-value
returns-then-not-round-clause-value g c =
    works_ended _ _ _ _ _ _ _ _ _ c.loop-round-test.true c.loop-round.invariant.1 c.if-not-round.ensures.value
