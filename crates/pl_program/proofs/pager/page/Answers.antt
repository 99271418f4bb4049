use Rattle.std.proofs.lemmas.Grind.{common_steps}
use Rattle.std.proofs.Common.{arith}
use Rattle.pl_program.proofs.Rounds.{pages_more}
use Rattle.pl_program.proofs.pager.page.Goals as goal

pub loop-database-preserved : goal.loop-database-preserved
loop-database-preserved g c =
    (c.materialise-worked.ensures.own, pages_more _ _ _ _ _ _ _ c.loop-database.invariant.1 c.materialise-worked.ensures.value)

pub returns : goal.returns
returns g c = grind (arith, common_steps)
