use Rattle.std.proofs.Common.{◌≡◌, ◌∙◌, Option, Some, sym, ap, subst}
use Rattle.std.specs.Prelude.{IfSome}
use Rattle.std.specs.Slots.{slots_items}
use mathlib.Core.Option as maybe
use Rattle.pl_core.specs.History.{History}
use Rattle.pl_desk.specs.Rule.{IsAhead}
use Rattle.pl_desk.specs.Passes.{Knowledge}
use Rattle.pl_desk.proofs.Dealing.{closes}
use Rattle.pl_desk.proofs.desk.Desk.close.Goals as goal

pub returns-then-is_idle : goal.returns-then-is_idle
returns-then-is_idle c =
    let items = slots_items c.close_with-closed.result.slots in
    let same = c.if-is_idle.true in
    let found = closes _ _ _ _ items c.word.result c.pass.invariant.1 c.word.ensures (c.word-2.ensures ∙ ap maybe.some (sym same)) c.close_with-closed.ensures.values.2 in
    let out : Some found.0 ≡ c.take-db.result = maybe.some-injective (Some found.0) c.take-db.result (sym found.1 ∙ c.take-db.ensures.value) in
    let is : Some found.0 ≡ c.unboxed.result = out ∙ sym c.unboxed.ensures.value in
    let Ahead : Knowledge → Option History → Type 0 = λ p o. IfSome o (λ h. IsAhead p.terms p.number p.seen h) in
    let own = c.pass.inside.seat in
    record { value = subst (λ (p : Knowledge). Ahead p c.unboxed.result) c.pass.view_is (subst (λ (o : Option History). IfSome o (λ h. IsAhead own.me.0.terms own.me.0.number own.me.0.seen h)) is found.2) }
