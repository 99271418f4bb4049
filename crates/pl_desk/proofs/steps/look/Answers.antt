use Rattle.std.proofs.Common.{rules}
use Rattle.pl_desk.proofs.Turning.{looks}
use Rattle.pl_desk.proofs.steps.look.Goals as goal

pub load-requires : goal.load-requires
load-requires c = (search rules, search rules, looks _ _ _ _ _ c.requires.waits.1)
