use Rattle.pl_wire.proofs.FrameLemmas.{frames_end}
use Rattle.pl_wire.proofs.laws.frames_end_themselves.Goals as goal

pub returns : goal.returns
returns c = record { law = frames_end }
