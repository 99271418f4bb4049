use Rattle.std.proofs.Common.{◌≡◌, length, ◌∙◌}
use Rattle.pl_conn.proofs.Dealing.{deal_last}
use Rattle.pl_conn.proofs.desks.deal.Goals as goal

pub loop-pass-preserved : goal.loop-pass-preserved
loop-pass-preserved c =
    let place : c.len.result ≡ length c.pop.new.self.items = c.len.ensures ∙ c.pop.new.self.ok.0 in
    let step = deal_last c.loop-pass.passes.items c.pop.new.self.items c.loop-pass.all.items c.in-Some.pass c.len.result c.index_mut-place.result.now c.push.new.self c.in-Some.ensures.items place
    c.loop-pass.invariant.room c.index_mut-place.ensures.value c.in_ok-push.ensures in
    record { dealt = step.0 ∙ c.loop-pass.invariant.dealt; room = step.1 }
