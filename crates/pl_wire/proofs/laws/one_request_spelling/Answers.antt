use Rattle.pl_wire.proofs.Requests.{requests_law}
use Rattle.pl_wire.proofs.laws.one_request_spelling.Goals as goal

pub returns : goal.returns
returns c = record { law = requests_law c.one_spelling.ensures.law }
