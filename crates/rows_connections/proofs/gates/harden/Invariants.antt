use Rattle.rows_connections.proofs.gates.harden.Given as goal

-- the pass is the gate's
abbrev pub invariant-loop-lsn : goal.invariant-loop-lsn
invariant-loop-lsn g l = g.G.Gate.owns l.gate l.pass
