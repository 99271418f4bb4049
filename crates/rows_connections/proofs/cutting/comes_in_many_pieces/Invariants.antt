use Rattle.pl_conn.specs.Solo.{HasDatabases}
use Rattle.rows_connections.proofs.cutting.comes_in_many_pieces.Given as goal

-- the pass has its databases
abbrev pub invariant-loop : goal.invariant-loop
invariant-loop l = HasDatabases l.at.pass
