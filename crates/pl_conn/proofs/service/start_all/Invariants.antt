use Rattle.std.proofs.Common.{◌≡◌, ◌+◌, ◌≤◌, vec_len, vec_capacity}
use Rattle.pl_conn.specs.Workers.{Begun}
use Rattle.pl_conn.proofs.service.start_all.Given as goal

-- those that are begun have the first passes
abbrev pub invariant-loop-hired : goal.invariant-loop-hired
invariant-loop-hired g l = (vec_len l.workers + vec_len l.passes ≤ vec_capacity l.workers)
    × (vec_len l.workers + vec_len l.passes ≡ vec_len l.fn.passes)
    × Begun l.workers.items (λ h. h.promise.start.value) (λ h. h.promise.gate.value) g.G.Gate.owns l.gate l.fn.passes.items l.passes.items

abbrev pub decreases-loop-hired : goal.decreases-loop-hired
decreases-loop-hired g l = vec_len l.passes
