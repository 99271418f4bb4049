use Rattle.pl_desk.specs.Passes.{IsOf}
use Rattle.rows_service.proofs.desks.play.Given as goal

-- the pass is of the desk
abbrev pub invariant-loop-line : goal.invariant-loop-line
invariant-loop-line g l =
    (goal.iterator-loop-line g).can_next l.line-iterator
    × (goal.iterator-loop-line g).is_finite l.line-iterator
    × IsOf l.desk l.pass
