use Rattle.std.proofs.Common.{ap, is_some, inl, inr}
use Rattle.clap.specs.Words.{found_of}
use Rattle.pl_command.proofs.Matching.{left_out, not_left_out}
use Rattle.pl_command.proofs.command_line.number_if_given.Goals as goal

pub returns-in_err-number_of-in-Some-clause-none : goal.returns-in_err-number_of-in-Some-clause-none
returns-in_err-number_of-in-Some-clause-none c none given = elim given [
  | inl left ↦ not_left_out (found_of c.args.found.now) c.args.name.now c.get_str.result c.in-Some.field-0 c.get_str.ensures c.in-Some.is left
  | inr gives ↦ c.number_of.ensures.none (ap is_some c.in_err-number_of-in-Some.was) gives
]

pub returns-in-None-clause-some : goal.returns-in-None-clause-some
returns-in-None-clause-some c = left_out (found_of c.args.found.now) c.args.name.now c.get_str.result c.get_str.ensures c.in-None.is
