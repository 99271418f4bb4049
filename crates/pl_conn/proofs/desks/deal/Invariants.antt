use Rattle.std.proofs.Common.{◌≡◌, ◌≤◌, length, vec_len}
use Rattle.pl_conn.specs.Desks.{dealt_into}
use Rattle.pl_conn.proofs.desks.deal.Given as goal

-- what is left to deal comes to what was there to deal
abbrev pub invariant-loop-pass : goal.invariant-loop-pass
invariant-loop-pass l = record {
  dealt : dealt_into l.passes.items l.all.items ≡ dealt_into l.fn.passes.items l.fn.all.items;
  room : length l.passes.items ≤ length l.all.items;
}

abbrev pub decreases-loop-pass : goal.decreases-loop-pass
decreases-loop-pass l = vec_len l.passes
