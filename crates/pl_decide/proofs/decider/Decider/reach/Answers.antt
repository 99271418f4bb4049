use Rattle.std.proofs.Common.{nat_le, ap, sym, ◌∙◌, arith}
use Rattle.pl_decide.proofs.AllowedThrough.{cut_at}
use Rattle.pl_decide.proofs.decider.Decider.reach.Goals as goal

pub returns-in-Some-clause-exact : goal.returns-in-Some-clause-exact
returns-in-Some-clause-exact c lsn le =
    c.in-Some.ensures.exact lsn (omega (arith, le, c.ranges.hard.fits)) ∙ cut_at lsn c.in-Some.end c.args.hard le ∙ ap (nat_le lsn) (sym c.min.ensures)
