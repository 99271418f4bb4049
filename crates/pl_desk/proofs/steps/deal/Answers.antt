use Rattle.std.proofs.Common.{rules}
use Rattle.pl_desk.proofs.Dealing.{deals}
use Rattle.pl_desk.proofs.steps.deal.Goals as goal

pub split_seat-requires : goal.split_seat-requires
split_seat-requires c = (search rules, search rules, deals _ _ _ c.requires.rests.1 c.requires.deals.0 c.requires.deals.1)
