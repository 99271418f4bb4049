use Rattle.std.proofs.Common.{length, ap, ◌∙◌}
use Rattle.pl_decide.proofs.decider.Decider.cached.Goals as goal

pub returns-clause-value : goal.returns-clause-value
returns-clause-value c = c.len.ensures.len ∙ ap length c.self.view_is
