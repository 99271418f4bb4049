use Rattle.std.proofs.Common.{◌≡◌, ℕ, ◌<◌, sym, ap, subst, ◌∙◌, arith}
use Rattle.pl_core.specs.History.{History}
use Rattle.pl_desk.specs.declared.rule.Stage.TheVariants.{Waiting, InTurn}
use Rattle.pl_desk.specs.declared.rule.Terms.{Terms}
use Rattle.pl_desk.specs.declared.rule.View.{View}
use Rattle.pl_desk.specs.Rule.{IsAhead, terms_of}
use Rattle.pl_core.specs.declared.reply.Reply.{Reply}
use Rattle.pl_core.specs.Appending.{reply_in}
use Rattle.pl_core.specs.Step.{IsStep}
use Rattle.pl_desk.specs.Steps.{HeldSlot, at_stage, asked, settled}
use Rattle.pl_desk.specs.Passes.{Knowledge, DeskOrigin, knowledge_of, WasCalled}
use Rattle.pl_desk.proofs.Calling.{called}
use Rattle.pl_desk.proofs.desk.Desk.call_onto.Goals as goal

pub returns-clause-call : goal.returns-clause-call
returns-clause-call g c =
    let v : View = c.pass.inside.seat.me.0 in
    let desk = c.pass.inside.seat.table_id in
    let read : ℕ = c.ask.result in
    let ticket : ℕ = c.draw-ticket.result in
    let turn = c.wait.ensures.turn in
    let found : History = turn.0 in
    let reply : Reply = reply_in c.take_turn-answer.result c.args.page.now.items c.take_turn-answer.new.page.items in
    let stepped = c.take_turn-answer.ensures.step found (ap (λ (m : HeldSlot). m.1) turn.1) in
    let now : History = stepped.0 in
    let waits : c.draw-ticket.new.seat.me.0 ≡ at_stage (Waiting ticket) (asked read v) =
    ap (λ (m : HeldSlot). m.0) c.draw-ticket.ensures.pass ∙ ap (λ (m : HeldSlot). at_stage (Waiting ticket) m.0) c.ask.ensures.pass in
    let after : c.take_turn-answer.new.seat.me.0 ≡ settled now (asked read v) =
    ap (λ (m : HeldSlot). m.0) stepped.1 ∙ (ap (λ (m : HeldSlot). settled now m.0) turn.1 ∙ ap (λ (u : View). settled now (at_stage (InTurn ticket found) u)) waits) in
    let ahead : IsAhead v.terms v.number v.seen found = subst (λ (u : View). IsAhead u.terms u.number u.seen found) waits turn.2 in
    let number : c.pass.inside.number ≡ v.number = c.pass.invariant.2 in
    let step : IsStep v.number c.args.request found reply now = subst (λ (k : ℕ). IsStep k c.args.request found reply now) number stepped.2 in
    let of : v.terms ≡ terms_of c.self.inside.table.shared.key =
    ap (λ (p : Knowledge). p.terms) c.pass.view_is ∙ (c.requires.of.1 ∙ sym (ap (λ (d : DeskOrigin). d.terms) c.self.view_is)) in
    let turns : v.terms.turns ≡ c.self.inside.table.shared.key.turns = ap (λ (t : Terms). t.turns) of in
    let bound : c.self.inside.turns ≡ c.self.inside.table.shared.key.turns = c.self.invariant.2 in
    let less : read < c.self.inside.turns = c.if-ask-self.false in
    let sound = c.ask.ensures.legal in
    let done = called (knowledge_of desk v) c.args.request reply found now read c.pass.invariant.3 c.pass.invariant.4 sound.0 sound.1 ahead step stepped.3
    c.take_turn-answer.ensures.reply.never (omega (arith, turns, bound, less)) in
    let table : c.take_turn-answer.new.seat.table_id ≡ desk =
    c.take_turn-answer.ensures.same.0 ∙ (c.wait.ensures.same.0 ∙ (c.draw-ticket.ensures.same.0 ∙ c.ask.ensures.same.0)) in
    subst (λ (p : Knowledge). WasCalled p c.args.request reply (knowledge_of c.take_turn-answer.new.seat.table_id c.take_turn-answer.new.seat.me.0)) c.pass.view_is
    (subst (λ (q : Knowledge). WasCalled (knowledge_of desk v) c.args.request reply q) (λ i. knowledge_of (sym table i) (sym after i)) done)
