use Rattle.std.proofs.Common.{arith}
use Rattle.pl_conn.proofs.Assembling.{assembles_start, assembles_of, assembles_more, assembles_end}
use Rattle.pl_conn.proofs.desks.Desks.take_in.Goals as goal

pub loop-other-init : goal.loop-other-init
loop-other-init g c = assembles_start c.args.self.now c.args.others.items c.args.pass c.requires.of c.requires.others

pub meet-requires-clause-other : goal.meet-requires-clause-other
meet-requires-clause-other g c = assembles_of _ _ _ _ c.in-Some.other _ c.pop.new.self.items c.loop-other.invariant c.in-Some.ensures.items

pub loop-other-preserved : goal.loop-other-preserved
loop-other-preserved g c =
    assembles_more _ _ _ _ c.in-Some.other c.meet.new.passes _ c.pop.new.self.items c.loop-other.invariant c.in-Some.ensures.items c.meet.ensures.met c.meet.ensures.of

pub returns-clause-seen : goal.returns-clause-seen
returns-clause-seen g c =
    let none = rw c.in_default.is at c.pop.ensures.cases in
    assembles_end _ _ _ _ c.loop-other.others.items (omega (arith, none.0, c.loop-other.others.ok.0)) c.loop-other.invariant
