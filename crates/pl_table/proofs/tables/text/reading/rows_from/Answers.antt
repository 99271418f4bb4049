use Rattle.std.proofs.Common.{sym, ◌∙◌}
use Rattle.toml.specs.View.{view}
use Rattle.pl_table.specs.Tables.Part.{row_of}
use Rattle.pl_table.proofs.Listings.{filter_map-given, filter_map-passed}
use Rattle.pl_table.proofs.tables.text.reading.rows_from.Goals.{in-Some+in_ok-push, in_default}
use Rattle.pl_table.proofs.tables.text.reading.rows_from.Goals as goal

pub loop-value-preserved : goal.loop-value-preserved
loop-value-preserved c =
    let given = c.in_ok-row.ensures.ok in
    elim c.match-branch-2.branch [
      | in-Some+in_ok-push w ↦ rw (w.rows-is, w.in_ok-push.ensures.items) (filter_map-given (λ v. row_of c.args.principals.now (view v)) c.loop-value.rows.items c.args.listed.now c.loop-value.value-index c.value-item.result w.in-Some.row c.loop-value-test.true c.value-item.is (sym given ∙ w.in-Some.is) ∙ c.loop-value.invariant)
      | in_default w ↦ rw w.rows-is (filter_map-passed (λ v. row_of c.args.principals.now (view v)) c.loop-value.rows.items c.args.listed.now c.loop-value.value-index c.value-item.result c.loop-value-test.true c.value-item.is (sym given ∙ w.in_default.is) ∙ c.loop-value.invariant)
    ]
