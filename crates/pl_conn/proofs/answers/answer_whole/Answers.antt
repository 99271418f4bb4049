use Rattle.std.proofs.Common.{rules}
use Rattle.pl_conn.proofs.Gathered.{gathers_none, more_gathered}
use Rattle.pl_conn.proofs.answers.answer_whole.Goals as goal

pub loop-init : goal.loop-init
loop-init g c = record {
  own = c.requires.own;
  taken = search rules;
  few = search rules;
  gathers = gathers_none _ _ _;
}

pub loop-preserved : goal.loop-preserved
loop-preserved g c = record {
  own = c.answer_first.ensures.own;
  taken = search rules;
  few = search rules;
  gathers = more_gathered _ _ _ _ c.args.bytes.now c.loop.taken _ _ _ _ c.loop.invariant.gathers c.in-Some.ensures.some.0;
}
