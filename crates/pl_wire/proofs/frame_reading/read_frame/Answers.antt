use Rattle.std.proofs.lemmas.Result.{err_from_is_err_and}
use Rattle.pl_wire.proofs.Stops.{stops_in_body}
use Rattle.pl_wire.proofs.frame_reading.read_frame.Goals as goal

pub returns-in_err-body-clause-err : goal.returns-in_err-body-clause-err
returns-in_err-body-clause-err g c =
    let p = err_from_is_err_and c.from_residual-in_err-body.result c.from_residual-in_err-body.ensures.1 in
    let (within, head) = rw c.in-Some.is at c.in_ok-len.ensures.some in
    rw p.1 (rw p.2 (stops_in_body c.args.limit c.in-Some.len _ _ _ _ within head c.in_err-body.ensures.err))
