-- Who may put another table in force: a principal whose set_table as operator is allowed.
use Rattle.std.specs.Prelude.{ℕ, ◌==◌, Bool, false, ◌&&◌, List, find, Option, Some, None}
use Rattle.std.specs.List.{list_any}
use Rattle.pl_table.specs.declared.requests.op.Role.TheVariants.{Operator}
use Rattle.pl_table.specs.declared.requests.op.Op.TheVariants.{SetTable}
use Rattle.pl_table.specs.declared.tables.row.Row.{Row}
use Rattle.pl_table.specs.declared.tables.table.Principal.{Principal}
use Rattle.pl_table.specs.Requests.Ops.{same_role, lists_op}
use Rattle.pl_table.specs.Tables.Absent.{part_matches}

-- The row is about a principal's set_table as operator. That names no partition, so that every range matches.
abbrev pub is_about_setting : ℕ → Row → Bool
is_about_setting id row = part_matches (λ who. who == id) row.who && (part_matches (same_role Operator) row.role && part_matches (lists_op SetTable) row.op)

-- the row is there, and allows
abbrev pub allows : Option Row → Bool
allows None = false
allows (Some row) = row.allows

-- for some principal the first row about its set_table allows it
unfoldable pub somebody_sets : List Principal → List Row → Bool
somebody_sets ps rows = list_any (λ p. allows (find (is_about_setting p.id) rows)) ps
