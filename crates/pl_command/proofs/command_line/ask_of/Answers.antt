use Rattle.std.proofs.Common.{refl, codes}
use Rattle.std.specs.Prelude.{string_bytes}
use Rattle.clap.specs.Words.{found_of}
use Rattle.pl_command.proofs.Matching.{has_text, text_missing}
use Rattle.pl_command.proofs.command_line.ask_of.Goals as goal
use Rattle.pl_command.proofs.command_line.ask_of.Goals.{in_default-via-in-Some+in_default, in_default-via-in_default}

pub returns-in_default-clause-none : goal.returns-in_default-clause-none
returns-in_default-clause-none c none given = elim c.in_default.branch [
  | in_default-via-in-Some+in_default w ↦ text_missing (found_of c.args.found.now) (codes "token") c.get_str-2.result c.get_str-2.ensures w.in_default.is-1 given.token
  | in_default-via-in_default w ↦ text_missing (found_of c.args.found.now) (codes "to") c.get_str.result c.get_str.ensures w.in_default.is-0 given.to
]

pub returns-clause-ok : goal.returns-clause-ok
returns-clause-ok c = (
  refl,
  record {
    to_is = has_text (found_of c.args.found.now) (codes "to") c.get_str.result c.in-Some-Some.to (string_bytes c.in_ok-to.to) c.get_str.ensures c.in-Some-Some.is-0 c.in_ok-to.ensures.ok;
    id_is = c.in-Some.ensures.some;
    token_is = has_text (found_of c.args.found.now) (codes "token") c.get_str-2.result c.in-Some-Some.token (string_bytes c.in_ok-token.token) c.get_str-2.ensures c.in-Some-Some.is-1 c.in_ok-token.ensures.ok;
    db_is = c.in-Some-number_of.ensures.some;
    epoch_is = c.in-Some-number_of-2.ensures.some;
    words_are = rw c.in-Some-2.is at c.in_ok-words.ensures.ok;
  },
)
