use Rattle.std.proofs.Common.{ap, is_some}
use Rattle.pl_command.proofs.command_line.serve_numbers.Goals as goal

pub returns-in_err-number_of-clause-none : goal.returns-in_err-number_of-clause-none
returns-in_err-number_of-clause-none c none given = c.number_of.ensures.none (ap is_some c.in_err-number_of.was) given.primary

pub returns-in_err-number_of-2-clause-none : goal.returns-in_err-number_of-2-clause-none
returns-in_err-number_of-2-clause-none c none given = c.number_of-2.ensures.none (ap is_some c.in_err-number_of-2.was) given.dbs

pub returns-in_err-number_of-3-clause-none : goal.returns-in_err-number_of-3-clause-none
returns-in_err-number_of-3-clause-none c none given = c.number_of-3.ensures.none (ap is_some c.in_err-number_of-3.was) given.workers

pub returns-in_err-number_of-4-clause-none : goal.returns-in_err-number_of-4-clause-none
returns-in_err-number_of-4-clause-none c none given = c.number_of-4.ensures.none (ap is_some c.in_err-number_of-4.was) given.connections

pub returns-in_err-number_of-5-clause-none : goal.returns-in_err-number_of-5-clause-none
returns-in_err-number_of-5-clause-none c none given = c.number_of-5.ensures.none (ap is_some c.in_err-number_of-5.was) given.audit

pub returns-in_err-number_of-6-clause-none : goal.returns-in_err-number_of-6-clause-none
returns-in_err-number_of-6-clause-none c none given = c.number_of-6.ensures.none (ap is_some c.in_err-number_of-6.was) given.pager

pub returns-in_err-number_of-7-clause-none : goal.returns-in_err-number_of-7-clause-none
returns-in_err-number_of-7-clause-none c none given = c.number_of-7.ensures.none (ap is_some c.in_err-number_of-7.was) given.partition

pub returns-in_err-number_of-8-clause-none : goal.returns-in_err-number_of-8-clause-none
returns-in_err-number_of-8-clause-none c none given = c.number_of-8.ensures.none (ap is_some c.in_err-number_of-8.was) given.rounds

pub returns-in_err-number_if_given-clause-none : goal.returns-in_err-number_if_given-clause-none
returns-in_err-number_if_given-clause-none c none given = c.number_if_given.ensures.none (ap is_some c.in_err-number_if_given.was) given.idle_polls
