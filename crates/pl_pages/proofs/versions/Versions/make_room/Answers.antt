use Rattle.std.proofs.Common.{sym, subst}
use Rattle.pl_pages.specs.Kept.{StayTrue}
use Rattle.pl_pages.proofs.versions.Versions.make_room.Goals as goal

pub returns-in-Err-clause-truth : goal.returns-in-Err-clause-truth
returns-in-Err-clause-truth c =
    subst (λ v. StayTrue c.args.self.now.versions v.versions) (sym c.free_oldest.ensures.same) c.in-Err.ensures.truth
