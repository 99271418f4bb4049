use Rattle.std.proofs.Common.{◌≡◌, ◌+◌, ◌≤◌, map, vec_len, vec_capacity}
use Rattle.pl_conn.specs.Workers.{Ended}
use Rattle.pl_conn.proofs.service.join_all.Given as goal

-- those that ended are the first
abbrev pub invariant-loop-workers : goal.invariant-loop-workers
invariant-loop-workers g l = (vec_len l.workers + vec_len l.ended ≤ vec_capacity l.ended)
    × (vec_len l.workers + vec_len l.ended ≡ vec_len l.fn.workers)
    × Ended l.workers.items (λ h. h.promise.start.value) (λ h. h.promise.gate.value) g.G.Gate.calls g.G.Gate.owns l.gate
    (map (λ h. h.promise.start.value) l.fn.workers.items) l.ended.items

abbrev pub decreases-loop-workers : goal.decreases-loop-workers
decreases-loop-workers g l = vec_len l.workers
