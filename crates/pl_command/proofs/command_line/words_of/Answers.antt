use Rattle.clap.specs.Words.{found_of}
use Rattle.std.proofs.Common.{map}
use Rattle.std.specs.Prelude.{string_bytes}
use Rattle.pl_command.proofs.Matching.{none_of, words_found, words_missing}
use Rattle.pl_command.proofs.command_line.words_of.Goals as goal

pub returns-in_default-clause-none : goal.returns-in_default-clause-none
returns-in_default-clause-none c none given =
    words_missing (found_of c.args.found.now) c.get_strs.result c.get_strs.ensures (none_of c.get_strs.result c.in_default.not-Some) given

pub returns-clause-ok : goal.returns-clause-ok
returns-clause-ok c =
    words_found (found_of c.args.found.now) c.get_strs.result c.in-Some.given (map string_bytes c.loop-word.words.items) c.loop-word.word-index
    c.get_strs.ensures c.in-Some.is c.loop-word.invariant c.loop-word-test.false
