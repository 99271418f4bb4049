use Rattle.std.proofs.Common.{◌≡◌, ◌++◌, drop}
use Rattle.std.specs.List.{filter_map}
use Rattle.toml.specs.View.{view}
use Rattle.pl_table.specs.Tables.Part.{row_of}
use Rattle.pl_table.proofs.tables.text.reading.rows_from.Given as goal

abbrev pub invariant-loop-value : goal.invariant-loop-value
invariant-loop-value l = l.rows.items ++ filter_map (λ v. row_of l.principals (view v)) (drop l.value-index l.listed) ≡ filter_map (λ v. row_of l.principals (view v)) l.listed
