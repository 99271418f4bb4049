use Rattle.std.proofs.Common.{◌∙◌}
use Rattle.pl_table.proofs.Listed.{places-listed, places-passed}
use Rattle.pl_table.proofs.tables.index.places_in.Goals.{then-can_be+in_ok-push, else-can_be}
use Rattle.pl_table.proofs.tables.index.places_in.Goals as goal

pub loop-place-preserved : goal.loop-place-preserved
loop-place-preserved c =
    elim c.if-can_be.branch [
      | then-can_be+in_ok-push w ↦ rw (w.list-is, w.in_ok-push.ensures.items) (places-listed c.args.asker c.args.op c.args.rows.now c.loop-place.list.items c.loop-place.place c.index-rows-place.result c.loop-place-test.true c.index-rows-place.is (rw (← c.can_be.ensures.value) w.if-can_be.true) ∙ c.loop-place.invariant)
      | else-can_be w ↦ rw w.list-is (places-passed c.args.asker c.args.op c.args.rows.now c.loop-place.list.items c.loop-place.place c.index-rows-place.result c.loop-place-test.true c.index-rows-place.is (rw (← c.can_be.ensures.value) w.if-can_be.false) ∙ c.loop-place.invariant)
    ]
