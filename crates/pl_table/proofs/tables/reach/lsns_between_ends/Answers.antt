use Rattle.std.proofs.Common.{arith}
use Rattle.std.proofs.lemmas.List.{take_more}
use Rattle.std.proofs.lemmas.List.Elements.{All-push}
use Rattle.pl_table.specs.declared.tables.row.Row.{Row}
use Rattle.pl_table.specs.Tables.Reach.{NoEndBetween}
use Rattle.pl_table.proofs.tables.reach.lsns_between_ends.Goals as goal

-- between the narrower ends neither a row before nor this one ends
pub loop-row-preserved : goal.loop-row-preserved
loop-row-preserved c =
    let more = rw (← c.row-item.is) at (take_more c.args.rows.now c.loop-row.row-index c.row-item.result c.loop-row-test.true) in
    let within = c.cut-lsns.ensures.within in
    let before = c.loop-row.invariant.2 in (
      c.cut-lsns.ensures.at.0,
      c.cut-lsns.ensures.at.1,
      λ other above below.
          rw more (All-push (λ (row : Row). NoEndBetween c.args.lsn other row.through) _ c.row-item.result (before other (omega (arith, within.0, above)) (omega (arith, within.1, below))) (c.cut-lsns.ensures.apart other above below)),
    )
