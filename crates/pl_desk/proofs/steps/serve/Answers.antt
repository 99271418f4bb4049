use Rattle.std.proofs.Common.{rules}
use Rattle.pl_desk.proofs.Turning.{serves}
use Rattle.pl_desk.proofs.steps.serve.Goals as goal

pub fetch_add-requires : goal.fetch_add-requires
fetch_add-requires c = (search rules, search rules, serves _ _ _ _ _ _ c.requires.turn.2 c.requires.turn.3)
