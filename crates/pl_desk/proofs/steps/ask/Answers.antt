use Rattle.std.proofs.Common.{rules}
use Rattle.pl_desk.proofs.Drawing.{asks}
use Rattle.pl_desk.proofs.steps.ask.Goals as goal

pub load-requires : goal.load-requires
load-requires c = (search rules, search rules, asks _ _ _ _ c.requires.rests.1)
