use Rattle.std.proofs.Common.{◌≡◌, sym, ap, subst, ◌∙◌}
use Rattle.pl_desk.specs.declared.rule.Stage.TheVariants.{Idle}
use Rattle.pl_desk.specs.declared.rule.View.{View}
use Rattle.pl_desk.specs.Rule.{GoesOnFrom, HasBoth}
use Rattle.pl_desk.specs.Steps.{HeldSlot, at_stage, longer, meeting}
use Rattle.pl_desk.specs.Passes.{Knowledge, knowledge_of, HasMet}
use Rattle.pl_desk.proofs.Calling.{met}
use Rattle.pl_desk.proofs.desk.Desk.meet.Goals as goal

pub compare-requires-clause-met : goal.compare-requires-clause-met
compare-requires-clause-met c =
    let v : View = c.pass.inside.seat.me.0 in
    let w : View = c.other.inside.seat.me.0 in
    let joined = c.join.ensures.pass in
    (ap (λ (m : HeldSlot). m.1) joined, (v.seen, w.seen, w.number, ap (λ (m : HeldSlot). m.0.stage) joined))

pub returns-clause-met : goal.returns-clause-met
returns-clause-met c =
    let v : View = c.pass.inside.seat.me.0 in
    let w : View = c.other.inside.seat.me.0 in
    let joined : c.join.new.seat.me.0 ≡ meeting v w = ap (λ (m : HeldSlot). m.0) c.join.ensures.pass in
    let sound : GoesOnFrom v.terms (longer v.seen w.seen) = subst (λ (u : View). GoesOnFrom u.terms u.seen) joined c.compare.ensures.legal in
    let both : HasBoth v.terms v.number w.number v.seen w.seen (longer v.seen w.seen) =
    subst (λ (u : View). HasBoth u.terms u.number w.number v.seen w.seen u.seen) joined (c.compare.ensures.met v.seen w.seen w.number (ap (λ (u : View). u.stage) joined)) in
    let after : c.compare.new.seat.me.0 ≡ at_stage Idle (meeting v w) = ap (λ (m : HeldSlot). m.0) c.compare.ensures.pass ∙ ap (at_stage Idle) joined in
    let table : c.compare.new.seat.table_id ≡ c.pass.inside.seat.table_id = c.compare.ensures.same.0 ∙ c.join.ensures.same.0 in
    let done = met c.pass.inside.seat.table_id c.other.inside.seat.table_id v w sound both in
    let q = knowledge_of c.compare.new.seat.table_id c.compare.new.seat.me.0 in
    let done' : HasMet (knowledge_of c.pass.inside.seat.table_id v) (knowledge_of c.other.inside.seat.table_id w) q =
    subst (HasMet (knowledge_of c.pass.inside.seat.table_id v) (knowledge_of c.other.inside.seat.table_id w)) (λ i. knowledge_of (sym table i) (sym after i)) done in
    subst (λ (o : Knowledge). HasMet c.args.pass.now o q) c.other.view_is (subst (λ (p : Knowledge). HasMet p (knowledge_of c.other.inside.seat.table_id w) q) c.pass.view_is done')
