use Rattle.std.proofs.Common.{refl}
use Rattle.std.proofs.lemmas.List.{length-map}
use Rattle.std.proofs.lemmas.Result.{err_from_is_err_and}
use Rattle.pl_table.specs.Tables.TableText.{listed_table}
use Rattle.pl_table.proofs.Readings.{fails_first}
use Rattle.pl_table.proofs.tables.text.reading.read_lists.Goals as goal

pub returns-in_err-principals : goal.returns-in_err-principals
unfolding listed_table
returns-in_err-principals c =
    let p = err_from_is_err_and c.from_residual-in_err-principals.result c.from_residual-in_err-principals.ensures.1 in
    record { exact = rw (p.1, p.2, length-map c.args.principals.now, length-map c.args.rows.now, ← c.in_ok-check_counts.ensures.value) (fails_first c.in_err-principals.field-0.0 _ _ c.in_err-principals.ensures.exact) }

pub returns-in_err-rows : goal.returns-in_err-rows
unfolding listed_table
returns-in_err-rows c =
    let p = err_from_is_err_and c.from_residual-in_err-rows.result c.from_residual-in_err-rows.ensures.1 in
    record { exact = rw (p.1, p.2, length-map c.args.principals.now, length-map c.args.rows.now, ← c.in_ok-check_counts.ensures.value, c.in_ok-principals.ensures.exact, ← c.deref.ensures.value) (fails_first c.in_err-rows.field-0.0 _ _ c.in_err-rows.ensures.exact) }

pub returns : goal.returns
unfolding listed_table
returns c =
    let rows = rw c.deref.ensures.value at c.in_ok-rows.ensures.exact in
    let sets = rw (c.deref-2.ensures.value, c.deref-3.ensures.value) at c.somebody_sets.ensures.value in
    record { exact = rw (length-map c.args.principals.now, length-map c.args.rows.now, ← c.in_ok-check_counts.ensures.value, c.in_ok-principals.ensures.exact, rows, ← sets, c.if-not-somebody_sets.false, c.in-Some.is, c.in_ok-of_parts.ensures.ok) refl }
