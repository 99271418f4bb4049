use Rattle.pl_conn.specs.Solo.{HasDatabases}
use Rattle.rows_connections.proofs.resting.cause_of.Given as goal

-- the pass has its databases
abbrev pub invariant-loop : goal.invariant-loop
invariant-loop l = HasDatabases l.at.pass
