use Rattle.pl_conn.specs.Materialising.{advance_at}
use Rattle.pl_conn.proofs.Rounds.{Going}
use Rattle.pl_conn.proofs.page_server.PageServer.advance_rounds.Given as goal

abbrev pub invariant-loop-round : goal.invariant-loop-round
invariant-loop-round g l = g.G.Gate.owns l.gate l.pass
    × Going (g.G.Gate.calls l.gate) (advance_at l.self.principal l.self.token l.database l.self.partition) l.fn.pass l.worked l._round l.pass
