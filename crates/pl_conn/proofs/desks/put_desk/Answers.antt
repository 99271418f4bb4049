use Rattle.std.proofs.lemmas.Result.{IfOk-weaker}
use Rattle.pl_conn.proofs.desks.put_desk.Goals as goal

pub returns : goal.returns
returns c = IfOk-weaker c.deal.result _ _ (λ _ out. (c.in_ok-push.ensures.items, out)) c.deal.ensures
