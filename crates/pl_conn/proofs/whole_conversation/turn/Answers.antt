use Rattle.std.proofs.Common.{refl, rules}
use Rattle.pl_conn.proofs.Blocking.{turn_cut, turn_ends, turn_stops, turn_tells}
use Rattle.pl_conn.proofs.whole_conversation.turn.Goals as goal

pub returns-in-Ok-false-clause-value : goal.returns-in-Ok-false-clause-value
returns-in-Ok-false-clause-value g c = turn_ends _ _ _ _ _ _ (rw c.in-Ok-false.field-0-test at c.in-Ok-false.ensures.value)

pub returns-in-Err-clause-value : goal.returns-in-Err-clause-value
returns-in-Err-clause-value g c = turn_stops _ _ _ _ _ _ _ c.in-Err.ensures.value

pub returns-then-sent-text-clause-value : goal.returns-then-sent-text-clause-value
returns-then-sent-text-clause-value g c =
    let gathers = rw c.buffered.ensures.value at c.answer_whole-taken.ensures.value in
    turn_cut _ _ _ _ _ _ _ _ _ _ _ _ _ _ c.restart.ensures.value (rw c.in-Ok-true.field-0-test at c.in-Ok-true.ensures.value) gathers c.consume.ensures.taken
    (rw c.text.ensures.value at c.write_ready-sent.ensures.value) _ c.whole_in-answered.ensures.value (search rules)

pub returns-clause-value : goal.returns-clause-value
returns-clause-value g c =
    let gathers = rw c.buffered.ensures.value at c.answer_whole-taken.ensures.value in
    rw c.count.ensures.value (turn_tells _ _ _ _ _ _ _ _ _ _ _ _ _ _ c.restart.ensures.value (rw c.in-Ok-true.field-0-test at c.in-Ok-true.ensures.value) gathers
    c.consume.ensures.taken (rw c.text.ensures.value at c.write_ready-sent.ensures.value) (search rules) (search rules))
