use Rattle.pl_block.proofs.Runs.{same_run}
use Rattle.pl_block.proofs.same_bytes.is_same_run.Goals as goal

pub returns : goal.returns
returns c = record { value = same_run c.args.one.now c.args.other.now c.requires.one c.requires.other }
