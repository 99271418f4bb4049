use Rattle.pl_conn.specs.Serving.{Reaches}
use Rattle.pl_conn.proofs.lines.Lines.turn_ready.Given as goal

-- the pass is the gate's, and came of the first by calls
abbrev pub invariant-loop-event : goal.invariant-loop-event
invariant-loop-event g l = g.G.Gate.owns l.gate l.pass × Reaches (g.G.Gate.calls l.gate) l.fn.pass l.pass
