use Rattle.std.proofs.Common.{refl, codes}
use Rattle.std.specs.Prelude.{string_bytes}
use Rattle.clap.specs.Words.{found_of}
use Rattle.pl_command.proofs.Matching.{has_text, none_of, text_missing}
use Rattle.pl_command.proofs.command_line.play_of.Goals as goal

pub returns-in_default-clause-none : goal.returns-in_default-clause-none
returns-in_default-clause-none c none given = text_missing (found_of c.args.found.now) (codes "table") c.get_str.result c.get_str.ensures (none_of c.get_str.result c.in_default.not-Some) given.table

pub returns-clause-ok : goal.returns-clause-ok
returns-clause-ok c = (
  refl,
  record {
    table_is = has_text (found_of c.args.found.now) (codes "table") c.get_str.result c.in-Some.table (string_bytes c.in_ok-table.table) c.get_str.ensures c.in-Some.is c.in_ok-table.ensures.ok;
    primary_is = c.in-Some-number_of.ensures.some;
  },
)
