use Rattle.std.proofs.lemmas.Grind.{common_steps}
use Rattle.std.proofs.Common.{◌≡◌, ◌+◌, ℕ, [], ◌∷◌, ◌++◌, sym, ap, ◌∙◌, arith}
use Rattle.pl_desk.specs.Rule.{terms_of}
use Rattle.pl_desk.specs.Steps.{HeldSlot, dealing, dealt}
use Rattle.pl_desk.specs.Passes.{DeskOrigin, knowledge_of, origin_of, fresh}
use Rattle.pl_desk.proofs.Dealing.{dealer, dealt-end}
use Rattle.pl_desk.proofs.opening.deal_all.Goals as goal

pub loop-number-preserved : goal.loop-number-preserved
loop-number-preserved c =
    let i = c.loop-number.invariant in
    let number : ℕ = c.loop-number.number in
    let key = c.args.shared.now.key in
    let desk : DeskOrigin = origin_of c.args.shared.now.table_id key in
    let seat = c.deal-seat.result in
    let table : seat.table_id ≡ c.args.shared.now.table_id = c.deal-seat.ensures.value.0 ∙ (i.same ∙ c.requires.shared.0) in
    let view : seat.me.0 ≡ dealt (dealer (terms_of key) number) = ap (λ (m : HeldSlot). m.0) c.deal-seat.ensures.value.1 ∙ ap (λ (m : HeldSlot). dealt m.0) i.first in
    let new : knowledge_of seat.table_id seat.me.0 ≡ fresh desk (number + 1) = λ k. knowledge_of (table k) (view k) in
    let pushed = rw c.unwrap.ensures at c.push.ensures.items in
    let sizes = rw c.unwrap.ensures at c.push.ensures.len in
    let capacity = c.push.ensures.capacity in
    let before = i.size in
    let room = i.room in
    let test = c.loop-number-test.true in
    let size = c.from.ensures in
    record {
      some = omega arith;
      few = omega (arith, test, size);
      same = c.deal-seat.ensures.same.0 ∙ i.same;
      first = c.deal-seat.ensures.pass ∙ ap (λ (m : HeldSlot). (dealing m.0, [])) i.first;
      passes = pushed ∙ (λ k. i.passes k ++ new k ∷ []) ∙ sym (dealt-end desk number i.some);
      size = let some = i.some in omega (arith, sizes, before, some);
      room = omega (arith, room, capacity);
    }

pub invariant_of-push : goal.invariant_of-push
invariant_of-push c = grind (arith, common_steps)
