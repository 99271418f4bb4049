use Rattle.std.proofs.Common.{refl, sym, subst}
use Rattle.pl_pages.specs.State.{AreVersions}
use Rattle.pl_pages.proofs.Frames.{replaced_true, blank_true}
use Rattle.pl_pages.proofs.versions.Versions.begin.Goals as goal

pub returns-clause-truth : goal.returns-clause-truth
returns-clause-truth c = λ log all.
    subst (λ vs. AreVersions vs log) (sym c.put_blank.ensures.versions)
    (replaced_true log _ _ (blank_true log c.args.page _ refl) (c.in_ok-place.ensures.truth log all) c.in_ok-place.place)
