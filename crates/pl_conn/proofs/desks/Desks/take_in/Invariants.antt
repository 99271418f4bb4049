use Rattle.std.proofs.Common.{vec_len}
use Rattle.pl_conn.proofs.Assembling.{Assembles}
use Rattle.pl_conn.proofs.desks.Desks.take_in.Given as goal

abbrev pub invariant-loop-other : goal.invariant-loop-other
invariant-loop-other g l = Assembles l.self l.fn.others.items l.fn.pass l.pass l.others.items

abbrev pub decreases-loop-other : goal.decreases-loop-other
decreases-loop-other g l = vec_len l.others
