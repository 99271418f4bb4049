use Rattle.std.proofs.Common.{rules}
use Rattle.pl_wire.proofs.Filling.{filled_more}
use Rattle.pl_wire.proofs.frame_reading.fill.Goals as goal

pub loop-count-preserved : goal.loop-count-preserved
loop-count-preserved g c = record {
  len = search rules;
  count = search rules;
  bytes = filled_more _ _ _ c.loop-count.count _ c.in-Ok.more c.loop-count.buffer c.read.new.buf c.loop-count.invariant.count c.in-Ok.ensures.bound.0 c.loop-count.invariant.bytes c.in-Ok.ensures.bytes.0;
}
