use Rattle.std.proofs.Common.{vec_len}
use Rattle.pl_conn.proofs.Meeting.{Meeting}
use Rattle.pl_conn.proofs.desks.meet_each.Given as goal

abbrev pub invariant-loop-other : goal.invariant-loop-other
invariant-loop-other l = Meeting l.desks l.fn.passes l.fn.others.items l.passes l.others.items

abbrev pub decreases-loop-other : goal.decreases-loop-other
decreases-loop-other l = vec_len l.others
