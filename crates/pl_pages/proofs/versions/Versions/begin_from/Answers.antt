use Rattle.std.proofs.Common.{sym, subst, arith}
use Rattle.pl_pages.specs.State.{AreVersions}
use Rattle.pl_pages.proofs.Frames.{replaced_true}
use Rattle.pl_pages.proofs.versions.Versions.begin_from.Goals as goal

pub returns-clause-truth : goal.returns-clause-truth
returns-clause-truth c = λ log all.
    let so_far = c.in_ok-place.ensures.truth log all in
    let there = so_far c.args.from _ (omega (arith, c.requires.within, c.in_ok-place.ensures.stay.len)) in
    subst (λ vs. AreVersions vs log) (sym c.copy.ensures.versions) (replaced_true log _ _ there so_far c.in_ok-place.place)
