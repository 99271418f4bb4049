use Rattle.pl_wire.proofs.FrameLemmas.{frames_apart}
use Rattle.pl_wire.proofs.laws.frames_of_one_input.Goals as goal

pub returns : goal.returns
returns c = record { law = frames_apart }
