use Rattle.std.proofs.Common.{refl, codes, inl, inr}
use Rattle.std.proofs.lemmas.Result.{IfOk-weaker}
use Rattle.clap.specs.Words.{found_of, rows_of}
use Rattle.pl_command.proofs.Matching.{ask_only, both_parts, named, not_there, play_only, serve_only}
use Rattle.pl_command.proofs.command_line.line_of.Goals as goal

pub returns-in-Some-clause-none : goal.returns-in-Some-clause-none
returns-in-Some-clause-none c =
    let subcommand = both_parts _ _ _ (codes "play") (rows_of (found_of c.in-Some.play.now)) (c.in-Some.ensures.found.0 refl) c.in-Some.ensures.rows in
    IfOk-weaker c.play_of.result _ _ (λ line fails none given. fails none (play_only _ _ subcommand given)) c.play_of.ensures.none

pub returns-in-Some-subcommand_matches-clause-none : goal.returns-in-Some-subcommand_matches-clause-none
returns-in-Some-subcommand_matches-clause-none c =
    let subcommand = both_parts _ _ _ (codes "serve") (rows_of (found_of c.in-Some-subcommand_matches.serve.now)) (c.in-Some-subcommand_matches.ensures.found.0 refl) c.in-Some-subcommand_matches.ensures.rows in
    IfOk-weaker c.serve_of.result _ _ (λ line fails none given. fails none (serve_only _ _ subcommand given)) c.serve_of.ensures.none

pub returns-in-Some-subcommand_matches-2-clause-none : goal.returns-in-Some-subcommand_matches-2-clause-none
returns-in-Some-subcommand_matches-2-clause-none c =
    let subcommand = both_parts _ _ _ (codes "ask") (rows_of (found_of c.in-Some-subcommand_matches-2.ask.now)) (c.in-Some-subcommand_matches-2.ensures.found.0 refl) c.in-Some-subcommand_matches-2.ensures.rows in
    IfOk-weaker c.ask_of.result _ _ (λ line fails none given. fails none (ask_only _ _ subcommand given)) c.ask_of.ensures.none

pub returns-clause-none : goal.returns-clause-none
returns-clause-none c none given = elim given.1 [
  | inl p ↦ not_there c.subcommand_matches.result c.in_default.is (c.subcommand_matches.ensures.found.1 (named _ _ _ (codes "play") given.0 p.0))
  | inr q ↦ elim q [
    | inl p ↦ not_there c.subcommand_matches-2.result c.in_default-subcommand_matches.is (c.subcommand_matches-2.ensures.found.1 (named _ _ _ (codes "serve") given.0 p.0))
    | inr p ↦ not_there c.subcommand_matches-3.result c.in_default-subcommand_matches-2.is (c.subcommand_matches-3.ensures.found.1 (named _ _ _ (codes "ask") given.0 p.0))
  ]
]
