use Rattle.std.proofs.Common.{◌∙◌}
use Rattle.pl_table.proofs.Listed.{lists-more}
use Rattle.pl_table.proofs.tables.index.lists_by_asker.Goals as goal

pub loop-name-preserved : goal.loop-name-preserved
loop-name-preserved c =
    rw c.in_ok-push.ensures.items (lists-more c.args.names.now c.args.rows.now c.loop-name.lists.items c.in_ok-of_asker.field-0 c.loop-name.name-index c.loop-name-test.true c.in_ok-of_asker.ensures.ok ∙ c.loop-name.invariant)
