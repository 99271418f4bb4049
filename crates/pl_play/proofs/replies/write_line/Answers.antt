use Rattle.pl_play.proofs.Turns.{tells_part, tells_whole}
use Rattle.pl_play.proofs.replies.write_line.Goals as goal

pub returns-in-Ok : goal.returns-in-Ok
returns-in-Ok g c = record { value = λ reply is. tells_whole reply _ _ _ is c.in-Ok.ensures.ok }

pub returns-in-Err : goal.returns-in-Err
returns-in-Err g c = record { value = λ reply is. tells_part reply _ _ _ is (_, c.in-Err.ensures.err.0, c.in-Err.ensures.err.1) }
