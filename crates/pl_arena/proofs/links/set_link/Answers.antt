use Rattle.std.proofs.Common.{arith}
use Rattle.pl_arena.proofs.Linked.{linked}
use Rattle.pl_arena.proofs.links.set_link.Goals as goal

pub returns : goal.returns
returns c = record { value = linked c.args.frame.now c.to_le_bytes.result c.args.next (omega (arith, c.told-frame)) c.ranges.next.fits c.to_le_bytes.ensures }
