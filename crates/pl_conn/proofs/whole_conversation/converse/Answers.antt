use Rattle.std.proofs.Common.{rules}
use Rattle.std.proofs.KnownBytes.{Consumes-nil}
use Rattle.pl_conn.proofs.Blocking.{told_end, told_full, told_more, told_none, told_then}
use Rattle.pl_conn.proofs.whole_conversation.converse.Goals as goal

pub loop-answered-init : goal.loop-answered-init
loop-answered-init g c = record {
  own = c.requires.own;
  few = search rules;
  told = told_none _ _ _ _ _ (Consumes-nil _);
}

pub returns-in-Ok-eq0-clause-value : goal.returns-in-Ok-eq0-clause-value
returns-in-Ok-eq0-clause-value g c =
    told_end _ _ _ _ _ c.loop-answered.invariant.few c.loop-answered.invariant.told (rw c.in-Ok-eq0.field-0-test at c.in-Ok-eq0.ensures.value)

pub loop-answered-preserved : goal.loop-answered-preserved
loop-answered-preserved g c = record {
  own = c.turn.ensures.own;
  few = search rules;
  told = told_more _ _ _ _ _ _ c.loop-answered.invariant.told c.in-Ok-turn.ensures.value.0;
}

pub returns-in-Err-clause-value : goal.returns-in-Err-clause-value
returns-in-Err-clause-value g c = told_then _ _ _ _ _ _ c.loop-answered.invariant.told c.in-Err.ensures.value

pub returns-clause-value : goal.returns-clause-value
returns-clause-value g c = told_full _ _ _ _ c.loop-answered.invariant.few (search rules) c.loop-answered.invariant.told
