use Rattle.pl_decide.proofs.Keyed.{matched-alike, one-verdict}
use Rattle.pl_decide.proofs.laws.one_key_has_one_verdict.Goals as goal

pub returns : goal.returns
returns c = record { rows = matched-alike; first = one-verdict }
