use Rattle.std.proofs.Common.{◌≡◌, ◌∙◌, ap, refl, codes, true}
use Rattle.clap.specs.Simple.{app_of, app_of_fields, new_app, on_top}
use Rattle.pl_command.specs.CommandLine.{ask_app, play_app, serve_app, top_app}
use Rattle.pl_command.proofs.options.program.Goals as goal

pub returns : goal.returns
returns c =
    let pagelog_is : app_of c.about.result ≡ new_app (codes "pagelog") = ap app_of_fields c.about.ensures ∙ c.new.ensures.app in
    let version_is : app_of c.version.result ≡ on_top (λ s. record s { has_version = true }) (app_of c.about.result) = ap app_of_fields c.version.ensures in
    let required_is : app_of c.subcommand_required.result ≡ on_top (λ s. record s { subcommand_required = true }) (app_of c.version.result) = ap app_of_fields c.subcommand_required.ensures in
    let help_is : app_of c.arg_required_else_help-top.result ≡ on_top (λ s. record s { arg_required_else_help = true }) (app_of c.subcommand_required.result) = ap app_of_fields c.arg_required_else_help-top.ensures in
    let begun : app_of c.arg_required_else_help-top.result ≡ top_app = help_is ∙ ap (on_top (λ s. record s { arg_required_else_help = true }))
    (required_is ∙ ap (on_top (λ s. record s { subcommand_required = true })) (version_is ∙ ap (on_top (λ s. record s { has_version = true })) pagelog_is)) in
    let play = c.with_sub.ensures.app top_app play_app begun c.play_command.ensures.ok refl in
    let serve = c.with_sub-2.ensures.app _ serve_app (rw c.in_ok-top.was at play) c.serve_command.ensures.ok refl in
    record { ok = c.with_sub-3.ensures.app _ ask_app (rw c.in_ok-top-2.was at serve) c.ask_command.ensures.ok refl }
