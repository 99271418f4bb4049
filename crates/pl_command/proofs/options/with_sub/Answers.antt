use Rattle.std.proofs.Common.{◌∙◌, ap, ap₂}
use Rattle.std.proofs.lemmas.Result.{IfOk-weaker}
use Rattle.clap.specs.Simple.{App, with_subcommand}
use Rattle.pl_command.proofs.Matching.{no_globals}
use Rattle.pl_command.proofs.options.with_sub.Goals as goal

pub returns-in-Ok : goal.returns-in-Ok
returns-in-Ok c = record {
  app = λ app sub is other plain.
      IfOk-weaker c.subcommand.result _ _ (λ whole adds. adds.shape (no_globals _ sub (rw c.in-Ok.is at other) plain) ∙ ap₂ with_subcommand is (ap (λ (a : App). a.top) (rw c.in-Ok.is at other))) c.subcommand.ensures;
}
