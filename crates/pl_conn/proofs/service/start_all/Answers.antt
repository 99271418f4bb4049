use Rattle.std.proofs.Common.{rules}
use Rattle.pl_conn.proofs.Working.{begins, split_first}
use Rattle.pl_conn.proofs.service.start_all.Goals as goal

pub loop-hired-preserved : goal.loop-hired-preserved
loop-hired-preserved g c = (
  search rules,
  search rules,
  rw c.push_reserved.ensures.items (begins _ _ g.G.Gate.calls _ _ _ c.loop-hired.workers.items c.loop-hired.passes.items _ _ _ c.loop-hired.invariant.2
      (split_first _ _ _ (search rules) c.remove-pass.ensures.value c.remove-pass.ensures.items) c.in-Some.ensures.of.0 c.in-Some.ensures.of.1),
)
