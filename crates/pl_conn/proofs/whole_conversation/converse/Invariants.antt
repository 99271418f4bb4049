use Rattle.std.proofs.Common.{◌-◌, ◌^◌, ◌≤◌}
use Rattle.pl_conn.specs.Conversation.{scene}
use Rattle.pl_conn.specs.Gathering.{Told}
use Rattle.pl_conn.proofs.whole_conversation.converse.Given as goal

-- each frame so far has its reply, which is written
abbrev pub invariant-loop-answered : goal.invariant-loop-answered
invariant-loop-answered g l = record {
  own : g.G.Gate.owns l.gate l.pass;
  few : l.answered ≤ 2 ^ 32;
  told : Told (g.G.Gate.calls l.gate) (scene (g.R.Read.remaining l.fn.reader) (g.W.Write.contents l.fn.writer) l.fn.pass)
      (scene (g.R.Read.remaining l.reader) (g.W.Write.contents l.writer) l.pass) l.answered;
}

abbrev pub decreases-loop-answered : goal.decreases-loop-answered
decreases-loop-answered g l = 2 ^ 32 - l.answered
