use Rattle.pl_desk.specs.Passes.{IsOf}
use Rattle.rows_service.proofs.few_turns.call_each.Given as goal

-- the pass is of the desk
abbrev pub invariant-loop : goal.invariant-loop
invariant-loop g l = IsOf l.desk l.pass
