use Rattle.std.proofs.Common.{arith}
use Rattle.pl_table.specs.Requests.Asking.{asked_in}
use Rattle.pl_decide.proofs.AllowedThrough.{to_the_last}
use Rattle.pl_decide.proofs.through.last_allowed.Goals as goal

pub returns-then-lsns-lt18446744073709551615 : goal.returns-then-lsns-lt18446744073709551615
returns-then-lsns-lt18446744073709551615 c = record { exact = λ lsn lt. c.reach.ensures.exact lsn (omega (arith, lt)) }

pub returns : goal.returns
returns c = record { exact = λ lsn lt. to_the_last c.args.table.now.rows (asked_in c.args.request.now) c.args.lsns 18446744073709551615 c.lower_lsns_are_allowed.ensures.law c.requires.allowed c.requires.order c.requires.alike (omega (arith, c.if-lsns-lt18446744073709551615.false)) lsn (omega (arith, lt)) }
