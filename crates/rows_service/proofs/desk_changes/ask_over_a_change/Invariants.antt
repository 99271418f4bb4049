use Rattle.pl_desk.specs.Passes.{IsOf}
use Rattle.rows_service.proofs.desk_changes.ask_over_a_change.Given as goal

-- the pass is of the desk
abbrev pub invariant-loop-number : goal.invariant-loop-number
invariant-loop-number g l = IsOf l.desk l.pass
