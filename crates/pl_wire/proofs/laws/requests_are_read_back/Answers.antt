use Rattle.pl_wire.proofs.Requests.{request_again}
use Rattle.pl_wire.proofs.laws.requests_are_read_back.Goals as goal

pub returns : goal.returns
returns c = record { law = request_again c.one_spelling.ensures.law }
