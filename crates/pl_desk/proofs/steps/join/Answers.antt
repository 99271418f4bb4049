use Rattle.std.proofs.Common.{rules}
use Rattle.pl_desk.proofs.Meeting.{joins}
use Rattle.pl_desk.proofs.steps.join.Goals as goal

pub join_seat-requires : goal.join_seat-requires
join_seat-requires c = (search rules, search rules, search rules, search rules, joins _ _ _ _ _ c.requires.rests.1 c.requires.rests.3)
