use Rattle.std.proofs.Common.{◌-◌, ◌≤◌, vec_len, vec_capacity}
use Rattle.pl_desk.proofs.parkers.Parkers.new.Given as goal

-- there is room for 64 parkers, and there are no more
abbrev pub invariant-loop-tickets : goal.invariant-loop-tickets
invariant-loop-tickets l = (vec_len l.tickets ≤ 64) × (64 ≤ vec_capacity l.tickets)

abbrev pub decreases-loop-tickets : goal.decreases-loop-tickets
decreases-loop-tickets l = 64 - vec_len l.tickets
