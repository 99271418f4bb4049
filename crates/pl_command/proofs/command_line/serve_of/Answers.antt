use Rattle.std.proofs.Common.{refl, codes}
use Rattle.std.specs.Prelude.{string_bytes}
use Rattle.clap.specs.Words.{found_of}
use Rattle.pl_command.proofs.Matching.{has_text, text_missing}
use Rattle.pl_command.proofs.command_line.serve_of.Goals as goal
use Rattle.pl_command.proofs.command_line.serve_of.Goals.{in_default-via-in-Some+in_default, in_default-via-in_default}

pub returns-in_default-clause-none : goal.returns-in_default-clause-none
returns-in_default-clause-none c none given = elim c.in_default.branch [
  | in_default-via-in-Some+in_default w ↦ text_missing (found_of c.args.found.now) (codes "table") c.get_str-2.result c.get_str-2.ensures w.in_default.is-1 given.table
  | in_default-via-in_default w ↦ text_missing (found_of c.args.found.now) (codes "listen") c.get_str.result c.get_str.ensures w.in_default.is-0 given.listen
]

pub returns-clause-ok : goal.returns-clause-ok
returns-clause-ok c = (
  refl,
  record {
    listen_is = has_text (found_of c.args.found.now) (codes "listen") c.get_str.result c.in-Some-Some.listen (string_bytes c.in_ok-from_str.field-0) c.get_str.ensures c.in-Some-Some.is-0 c.in_ok-from_str.ensures.ok;
    table_is = has_text (found_of c.args.found.now) (codes "table") c.get_str-2.result c.in-Some-Some.table (string_bytes c.in_ok-from_str-2.field-0) c.get_str-2.ensures c.in-Some-Some.is-1 c.in_ok-from_str-2.ensures.ok;
    numbers_are = c.in-Some.ensures.some;
  },
)
