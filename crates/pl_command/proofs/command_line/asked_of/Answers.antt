use Rattle.std.proofs.Common.{Result, Err, Ok, is_some, false, ap, ◌≡◌}
use Rattle.std.specs.Prelude.{IfErr}
use Rattle.std.proofs.lemmas.Result.{IfErr-weaker}
use Rattle.pl_command.proofs.command_line.asked_of.Goals as goal

-- what holds of every error holds of this one
of_each : {T E : Type 0} (r : Result T E) (P : E → Type 0) → ((e : E) → P e) → IfErr r P
of_each (Ok x) P each = tt
of_each (Err e) P each = each e

pub returns-in-Ok-None-clause-usage : goal.returns-in-Ok-None-clause-usage
returns-in-Ok-None-clause-usage c =
    let empty : is_some c.in-Ok-None.field-0 ≡ false = ap is_some c.in-Ok-None.field-0-is in
    of_each c.missing.result _ (λ fault usage taken. c.in-Ok-None.ensures.none empty taken)

pub returns-in-Err-clause-usage : goal.returns-in-Err-clause-usage
returns-in-Err-clause-usage c =
    IfErr-weaker c.outcome_of.result _ _ (λ fault kinds usage taken. (kinds usage).2 (c.in-Err.ensures.usage taken)) c.outcome_of.ensures.usage
