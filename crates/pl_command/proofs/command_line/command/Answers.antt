use Rattle.std.proofs.Common.{◌∙◌, ap, map}
use Rattle.std.specs.Prelude.{string_bytes}
use Rattle.std.proofs.lemmas.Result.{IfErr-weaker}
use Rattle.clap.specs.Words.{takes}
use Rattle.pl_command.specs.CommandLine.{own_app}
use Rattle.pl_command.proofs.command_line.command.Goals as goal

pub returns-clause-usage : goal.returns-clause-usage
returns-clause-usage c =
    let same = ap (λ ws. takes own_app (map string_bytes ws)) c.as_slice.ensures.value in
    IfErr-weaker c.asked_of-asked.result _ _ (λ fault refused usage taken. refused usage (same ∙ taken)) c.asked_of-asked.ensures.usage
