use Rattle.std.proofs.Common.{rules}
use Rattle.pl_desk.proofs.Drawing.{draws}
use Rattle.pl_desk.proofs.steps.draw.Goals as goal

pub fetch_add-requires : goal.fetch_add-requires
fetch_add-requires c = (search rules, search rules, draws _ _ _ _ c.requires.asks.1)
