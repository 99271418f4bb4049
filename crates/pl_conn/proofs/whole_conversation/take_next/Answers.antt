use Rattle.std.proofs.Common.{rules, arith}
use Rattle.pl_conn.proofs.Gathered.{takes_buffered, takes_read}
use Rattle.pl_conn.proofs.whole_conversation.take_next.Goals as goal

pub returns-in-Ok-Some-clause-value : goal.returns-in-Ok-Some-clause-value
returns-in-Ok-Some-clause-value g c =
    let some = rw c.in-Ok-Some.field-0-is at c.in-Ok-Some.ensures.some in
    takes_read _ _ _ _ _ _ c.in-Ok-Some.body.items _ _ _ _ _ (search rules) (search rules) (omega (arith, some.0, c.in-Ok-Some.body.ok)) some.1 (rw c.deref.ensures.value at c.decode_request-read.ensures.value.exact) (rw c.deref.ensures.value at c.decode_request-read.ensures.value.no_memory)
    c.put_answer.ensures.value.answers c.put_answer.ensures.value.fits (search rules) c.put_answer.ensures.value.waits

pub returns-in-Some-clause-value : goal.returns-in-Some-clause-value
returns-in-Some-clause-value g c = takes_buffered _ _ _ _ _ _ _ _ c.consume.ensures.taken (rw c.buffered.ensures.value at c.in-Some.ensures.some.0)
