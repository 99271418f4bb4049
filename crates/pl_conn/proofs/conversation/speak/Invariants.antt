use Rattle.std.proofs.Common.{[], ◌*◌, ◌≤◌, drop, length}
use Rattle.pl_conn.specs.Resting.{Speaks, middle}
use Rattle.pl_conn.proofs.conversation.speak.Given as goal

-- the frames that were taken are answered, one at least in each round, and all replies are written
abbrev pub invariant-loop : goal.invariant-loop
invariant-loop g l = record {
  own : g.G.Gate.owns l.gate l.pass;
  taken : l.taken ≤ length l.bytes;
  many : 4 * l.counter ≤ l.taken;
  speaks : Speaks (g.G.Gate.calls l.gate) l.fn.pass (g.W.Write.contents l.fn.writer) l.bytes l.pass (g.W.Write.contents l.writer) (middle (drop l.taken l.bytes) []);
}
