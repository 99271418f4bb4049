use Rattle.std.proofs.Common.{◌≡◌, drop}
use Rattle.pl_table.specs.Tables.Table.{token_of}
use Rattle.pl_table.proofs.tables.table.token_in.Given as goal

abbrev pub invariant-loop-principal : goal.invariant-loop-principal
invariant-loop-principal l = token_of l.id (drop l.principal-index l.principals) ≡ token_of l.id l.principals
