use Rattle.std.proofs.Common.{◌+◌, ◌≤◌, length, take}
use Rattle.pl_conn.specs.Gathering.{Gathers}
use Rattle.pl_conn.proofs.answers.answer_whole.Given as goal

-- the frames that were taken are answered, one in each round
abbrev pub invariant-loop : goal.invariant-loop
invariant-loop g l = record {
  own : g.G.Gate.owns l.gate l.pass;
  taken : l.taken ≤ length l.bytes;
  few : (length l.fn.outbox.lens ≤ length l.outbox.lens) × (length l.outbox.lens ≤ length l.fn.outbox.lens + l.counter);
  gathers : Gathers (g.G.Gate.calls l.gate) l.fn.pass (take l.taken l.bytes) l.fn.outbox l.pass l.outbox;
}
