use Rattle.std.proofs.Common.{refl}
use Rattle.pl_pages.proofs.pages.begin.Goals as goal

pub returns-in_err-place-in-Some-clause-kept : goal.returns-in_err-place-in-Some-clause-kept
returns-in_err-place-in-Some-clause-kept c = record {
  log_is = refl;
  truth = c.begin_from.ensures.truth c.args.log.now.hardened c.requires.versions.truth;
  chunks = c.begin_from.ensures.chunks;
}

pub returns-in_ok-place-in-Some-clause-kept : goal.returns-in_ok-place-in-Some-clause-kept
returns-in_ok-place-in-Some-clause-kept c = record {
  log_is = refl;
  truth = c.begin_from.ensures.truth c.args.log.now.hardened c.requires.versions.truth;
  chunks = c.begin_from.ensures.chunks;
}
