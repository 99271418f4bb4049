use Rattle.std.proofs.Common.{◌∙◌}
use Rattle.pl_decide.proofs.Same.{found-under}
use Rattle.pl_decide.proofs.cache.look_at.Goals as goal

pub returns : goal.returns
returns c = record { found = found-under c.args.verdicts.now.entries c.args.key c.copied.result (c.copied.ensures ∙ c.peek.ensures) }
