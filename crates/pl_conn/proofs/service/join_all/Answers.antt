use Rattle.std.proofs.Common.{rules}
use Rattle.pl_conn.proofs.Working.{ends_first}
use Rattle.pl_conn.proofs.service.join_all.Goals as goal

pub loop-workers-preserved : goal.loop-workers-preserved
loop-workers-preserved g c = (
  search rules,
  search rules,
  rw c.push_reserved.ensures.items (ends_first _ _ _ _ _ _ c.loop-workers.workers.items _ c.loop-workers.ended.items _ _ c.loop-workers.invariant.2 (search rules) c.remove-worker.ensures.value c.remove-worker.ensures.items c.join-pass.ensures),
)
