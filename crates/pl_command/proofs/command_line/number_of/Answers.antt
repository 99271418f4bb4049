use Rattle.std.proofs.Common.{◌≡◌, ◌∙◌, ℕ, Option, sym, ap, is_some, true≢false, arith}
use Rattle.std.specs.Prelude.{unwrap_or}
use Rattle.std.specs.Str.Parse.{ParsesUnsigned, ExplainsUnsignedError, HasUnsignedDigitsIfOk}
use Rattle.clap.specs.Words.{found_of}
use Rattle.pl_command.proofs.Matching.{has_number, number_read}
use Rattle.pl_command.proofs.command_line.number_of.Goals as goal
use Rattle.pl_command.proofs.command_line.number_of.Goals.{then-number-least-via-then-number-least, then-number-least-via-else-number-least+then-most-number}

pub returns-in_err-number-clause-none : goal.returns-in_err-number-clause-none
returns-in_err-number-clause-none c none given =
    let read = number_read _ (λ bs r. ParsesUnsigned 32 10 bs r × ExplainsUnsignedError 10 bs r × HasUnsignedDigitsIfOk bs r) (λ u x h. h.0) (found_of c.args.found.now) c.args.name.now
    c.args.least c.args.most c.get_one.result c.get_one.ensures.value (omega arith) given in
    true≢false (sym (ap is_some read.1) ∙ ap is_some c.in_err-number.was)

pub returns-then-number-least-clause-none : goal.returns-then-number-least-clause-none
returns-then-number-least-clause-none c none given =
    let read = number_read _ (λ bs r. ParsesUnsigned 32 10 bs r × ExplainsUnsignedError 10 bs r × HasUnsignedDigitsIfOk bs r) (λ u x h. h.0) (found_of c.args.found.now) c.args.name.now
    c.args.least c.args.most c.get_one.result c.get_one.ensures.value (omega arith) given in
    let same : read.0 ≡ c.in_ok-number.number = ap (λ (o : Option ℕ). unwrap_or o 0) (sym read.1 ∙ c.in_ok-number.was) in
    elim c.then-number-least.branch [
      | then-number-least-via-then-number-least w ↦ absurd (omega (arith, w.if-number-least.true, same, read.2))
      | then-number-least-via-else-number-least+then-most-number w ↦ absurd (omega (arith, w.if-most-number.true, same, read.3))
    ]

pub returns-clause-some : goal.returns-clause-some
returns-clause-some c =
    has_number _ (λ bs r. ParsesUnsigned 32 10 bs r × ExplainsUnsignedError 10 bs r × HasUnsignedDigitsIfOk bs r) (λ u x h. h.0) (found_of c.args.found.now) c.args.name.now
    c.args.least c.args.most c.get_one.result c.in_ok-number.number c.get_one.ensures.none c.get_one.ensures.value c.in_ok-number.was (search arith) (search arith)
