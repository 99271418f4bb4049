use Rattle.rows_connections.proofs.gates.answers_all.Given as goal

-- the pass is the gate's
abbrev pub invariant-loop-one : goal.invariant-loop-one
invariant-loop-one g l = g.G.Gate.owns l.gate l.pass
