use Rattle.std.proofs.Common.{◌≡◌}
use Rattle.pl_pages.specs.Index.{IsIndex}
use Rattle.pl_pages.proofs.pages.catch_up.Given as goal

-- the index has the blocks so far, and the log is as it was
abbrev pub invariant-loop-before : goal.invariant-loop-before
invariant-loop-before l = record {
  log : l.log ≡ l.fn.log;
  entered : l.index.entered ≡ l.before;
  index : IsIndex l.index l.fn.log.hardened;
}
