use Rattle.std.proofs.Common.{◌↔◌, List, IsTrue, subst}
use Rattle.pl_decide.specs.Keys.{CachedVerdict}
use Rattle.pl_decide.specs.Agreement.{AgreesWith}
use Rattle.pl_decide.proofs.decider.Decider.agrees_with.Goals as goal

pub returns : goal.returns
unfolding AgreesWith
returns c = record { exact = subst (λ (es : List CachedVerdict). IsTrue c.are_of_rows.result ↔ AgreesWith es c.args.table.now) c.self.view_is c.are_of_rows.ensures.exact }
