use Rattle.std.proofs.Common.{rules}
use Rattle.pl_desk.proofs.Meeting.{meets}
use Rattle.pl_desk.proofs.steps.compare.Goals as goal

pub load-requires : goal.load-requires
load-requires c = (search rules, search rules, meets _ _ _ _ _ _ _ c.requires.met.1.3)
