use Rattle.pl_conn.specs.Solo.{HasDatabases}
use Rattle.rows_connections.proofs.cutting.all_come_in_pieces.Given as goal

-- the pass has its databases
abbrev pub invariant-loop : goal.invariant-loop
invariant-loop l = HasDatabases l.at.pass
