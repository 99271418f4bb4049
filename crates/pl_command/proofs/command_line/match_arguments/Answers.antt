use Rattle.std.proofs.Common.{◌≡◌, ◌∙◌, refl, sym, ap, subst, true, map}
use Rattle.std.specs.Prelude.{string_bytes, IfSome}
use Rattle.clap.specs.Words.{fault_of, is_simple, kind_of, subcommand_of, subcommand_rows_of, takes}
use Rattle.clap.specs.declared.error.kind.ErrorKind.TheVariants.{DisplayHelp, DisplayVersion, OutOfMemory}
use Rattle.clap.specs.Kinds.{HasKind, IsAmong}
use Rattle.clap.specs.Faults.{is_simple_and_free}
use Rattle.pl_command.proofs.Matching.{among_asked}
use Rattle.clap.proofs.TakesLemmas.{passed_up}
use Rattle.pl_command.specs.CommandLine.{IsWholeCommand, Names, own_app}
use Rattle.pl_command.proofs.Taken.{takes_given}
use Rattle.pl_command.proofs.command_line.match_arguments.Goals as goal

pub returns-in_err-matches-clause-usage : goal.returns-in_err-matches-clause-usage
returns-in_err-matches-clause-usage c =
    let words = map string_bytes c.args.arguments.now in
    passed_up c.from_residual.result c.in_err-matches.field-0.0 (λ e. takes own_app words ≡ true → kind_of e ≡ OutOfMemory) c.from_residual.ensures.1
    (λ taken. c.in_err-matches.ensures.passes (ap (λ a. takes a words) c.requires ∙ taken))

pub returns-clause-none : goal.returns-clause-none
returns-clause-none c none taken =
    let words = map string_bytes c.args.arguments.now in
    let rows = (c.in_ok-matches.ensures.ok.2 (ap is_simple c.requires)).1 in
    let same : subcommand_rows_of c.in_ok-matches.matches ≡ subcommand_of own_app words = rows ∙ ap (λ a. subcommand_of a words) c.requires in
    c.in_ok-line_of.ensures.none none (subst IsWholeCommand (sym same) (takes_given words taken))

pub returns-in_err-matches-clause-help : goal.returns-in_err-matches-clause-help
returns-in_err-matches-clause-help c =
    let words = map string_bytes c.args.arguments.now in
    let error = c.in_err-matches.field-0.0 in
    let has = subst (λ a. HasKind (fault_of a words) error) c.requires (c.in_err-matches.ensures.kinds (ap is_simple_and_free c.requires)) in
    passed_up c.from_residual.result error (λ e. kind_of e ≡ DisplayHelp → IsAmong DisplayHelp (fault_of own_app words)) c.from_residual.ensures.1
    (λ is. among_asked (fault_of own_app words) (kind_of error) DisplayHelp refl has is)

pub returns-in_err-matches-clause-version : goal.returns-in_err-matches-clause-version
returns-in_err-matches-clause-version c =
    let words = map string_bytes c.args.arguments.now in
    let error = c.in_err-matches.field-0.0 in
    let has = subst (λ a. HasKind (fault_of a words) error) c.requires (c.in_err-matches.ensures.kinds (ap is_simple_and_free c.requires)) in
    passed_up c.from_residual.result error (λ e. kind_of e ≡ DisplayVersion → IsAmong DisplayVersion (fault_of own_app words)) c.from_residual.ensures.1
    (λ is. among_asked (fault_of own_app words) (kind_of error) DisplayVersion refl has is)

pub returns-clause-ok : goal.returns-clause-ok
returns-clause-ok c =
    let words = map string_bytes c.args.arguments.now in
    let rows = (c.in_ok-matches.ensures.ok.2 (ap is_simple c.requires)).1 in
    let same : subcommand_rows_of c.in_ok-matches.matches ≡ subcommand_of own_app words = rows ∙ ap (λ a. subcommand_of a words) c.requires in
    subst (λ found. IfSome c.in_ok-line_of.field-0 (Names found)) same c.in_ok-line_of.ensures.ok
