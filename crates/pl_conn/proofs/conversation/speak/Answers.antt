use Rattle.std.proofs.Common.{◌+◌, arith, inl, inr, rules}
use Rattle.std.proofs.lemmas.List.{length-drop}
use Rattle.pl_conn.proofs.Turning.{round, speaks_all, speaks_more, speaks_none}
use Rattle.pl_conn.proofs.conversation.speak.Goals as goal

pub loop-init : goal.loop-init
loop-init g c = record { own = c.requires.own; taken = search rules; many = search rules; speaks = speaks_none _ _ _ _ }

pub returns-then-is_err-clause-value : goal.returns-then-is_err-clause-value
returns-then-is_err-clause-value g c =
    speaks_more _ _ _ _ _ _ _ c.args.bytes.now c.loop.taken _ c.write_ready-sent.result.0 c.answer_whole-more.new.outbox.text c.loop.invariant.speaks
    (round _ _ _ _ c.args.bytes.now c.loop.taken c.in-Some.first c.answer_whole-more.result c.write_ready-sent.result.0 _ _ _ (search rules) c.in-Some.ensures.some.0 c.answer_whole-more.ensures.value)
    (rw c.text-text.ensures.value at c.write_ready-sent.ensures.value)

pub returns-then-taken-bytes-clause-value : goal.returns-then-taken-bytes-clause-value
returns-then-taken-bytes-clause-value g c =
    speaks_more _ _ _ _ _ _ _ c.args.bytes.now c.loop.taken _ c.write_ready-sent.result.0 c.answer_whole-more.new.outbox.text c.loop.invariant.speaks
    (round _ _ _ _ c.args.bytes.now c.loop.taken c.in-Some.first c.answer_whole-more.result c.write_ready-sent.result.0 _ _ _ (search rules) c.in-Some.ensures.some.0 c.answer_whole-more.ensures.value)
    (rw c.text-text.ensures.value at c.write_ready-sent.ensures.value)

pub returns-then-taken-bytes-clause-all : goal.returns-then-taken-bytes-clause-all
returns-then-taken-bytes-clause-all g c = inr (inr (inl (omega (arith, length-drop (c.loop.taken + (c.in-Some.first + c.answer_whole-more.result)) c.args.bytes.now))))

pub loop-preserved : goal.loop-preserved
loop-preserved g c = record {
  own = c.answer_whole-more.ensures.own;
  taken = search rules;
  many = search rules;
  speaks = speaks_all _ _ _ _ _ _ _ c.write_ready-sent.result.0 c.answer_whole-more.new.outbox.text (search rules)
      (speaks_more _ _ _ _ _ _ _ c.args.bytes.now c.loop.taken _ c.write_ready-sent.result.0 c.answer_whole-more.new.outbox.text c.loop.invariant.speaks
      (round _ _ _ _ c.args.bytes.now c.loop.taken c.in-Some.first c.answer_whole-more.result c.write_ready-sent.result.0 _ _ _ (search rules) c.in-Some.ensures.some.0 c.answer_whole-more.ensures.value)
      (rw c.text-text.ensures.value at c.write_ready-sent.ensures.value));
}
