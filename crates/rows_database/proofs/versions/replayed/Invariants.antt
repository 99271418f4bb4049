use Rattle.std.proofs.Common.{◌≡◌, vec_len}
use Rattle.rows_database.proofs.versions.replayed.Given as goal

-- the log is as it was, and the page keeps its length
abbrev pub invariant-loop-before : goal.invariant-loop-before
invariant-loop-before l = record {
  log : l.log ≡ l.fn.log;
  len : vec_len l.bytes ≡ 8192;
}
