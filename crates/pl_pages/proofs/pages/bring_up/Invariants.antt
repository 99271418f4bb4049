use Rattle.std.proofs.Common.{◌≡◌}
use Rattle.pl_pages.specs.Index.{IsAfterChanges}
use Rattle.pl_pages.specs.State.{AreVersions}
use Rattle.pl_pages.proofs.pages.bring_up.Given as goal

-- the version at the place has the changes of the blocks so far, and the log is as it was
abbrev pub invariant-loop-i : goal.invariant-loop-i
invariant-loop-i l = record {
  log : l.log ≡ l.fn.log;
  chunks : l.versions.chunks ≡ l.fn.versions.chunks;
  truth : AreVersions l.versions.versions l.fn.log.hardened;
  after : IsAfterChanges l.versions.versions l.place l.page l.fn.log.hardened l.i;
}
