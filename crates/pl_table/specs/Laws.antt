-- What a text reads as is a table; who may set the table, by requests and the rows that match them; and what is allowed at lower LSNs.
use Rattle.std.specs.Prelude.{◌≡◌, ◌↔◌, ◌≤◌, ℕ, true, List, Ok, IsTrue, IsSomeAnd}
use Rattle.std.specs.List.{Any}
use Rattle.pl_table.specs.declared.requests.op.Role.TheVariants.{Operator}
use Rattle.pl_table.specs.declared.requests.op.Op.TheVariants.{SetTable}
use Rattle.pl_table.specs.declared.tables.row.Row.{Row}
use Rattle.pl_table.specs.declared.tables.table.Principal.{Principal}
use Rattle.pl_table.specs.Requests.Request.{Query, op_of}
use Rattle.pl_table.specs.Requests.Asking.{Asked, asked_in, asked_at}
use Rattle.pl_table.specs.Tables.Row.{row_matches}
use Rattle.pl_table.specs.Tables.FirstMatch.{first_match_from, rows_allow}
use Rattle.pl_table.specs.Tables.Table.{WrittenTable, IsTable}
use Rattle.pl_table.specs.Tables.TableText.{table_reading}
use Rattle.pl_table.specs.Tables.Setting.{is_about_setting, somebody_sets}

-- what a text reads as is a table
abbrev pub TextsReadAsTables : Type 0
TextsReadAsTables = (text : List ℕ) (t : WrittenTable) → table_reading text ≡ Ok t → IsTable t

-- the principal of this id asks, as operator, to set a table
pub record AsksToSet (id : ℕ) (q : Query) : Type 0 where
  pub who : q.head.principal ≡ id
  pub role : q.head.role ≡ Operator
  pub op : op_of q.act ≡ SetTable

-- a row is about a principal's set_table exactly if it matches that request
abbrev pub RowsAreAboutSetting : Type 0
RowsAreAboutSetting = (id : ℕ) (q : Query) (row : Row) → AsksToSet id q
    → is_about_setting id row ≡ row_matches row (asked_in q)

-- somebody sets the table exactly if a principal is listed whose request is allowed by the first row that matches it
abbrev pub SomebodyIsAllowed : Type 0
SomebodyIsAllowed = (ps : List Principal) (rows : List Row) → IsTrue (somebody_sets ps rows)
    ↔ Any (λ p. (q : Query) → AsksToSet p.id q → IsSomeAnd (first_match_from 1 rows (asked_in q)) (λ found. IsTrue found.1)) ps

-- rows that allow what is asked at an LSN allow it at each lower one
abbrev pub LowerLsnsAreAllowed : Type 0
LowerLsnsAreAllowed = (rows : List Row) (a : Asked) (lsn lower : ℕ) → lower ≤ lsn
    → rows_allow rows (asked_at a lsn) ≡ true → rows_allow rows (asked_at a lower) ≡ true
