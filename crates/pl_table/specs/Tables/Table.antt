-- The written table, and what it lists for a principal.
use Rattle.std.specs.Prelude.{ℕ, ◌<◌, ◌≤◌, ◌==◌, nat_eq, List, [], ◌∷◌, length, map, Option, Some, None, IfSome, IsTrue, if◌then◌else◌}
use Rattle.std.specs.List.{All, Contains, IsDistinct}
use Rattle.pl_table.specs.declared.tables.row.Row.{Row}
use Rattle.pl_table.specs.declared.tables.table.Principal.{Principal}
use Rattle.pl_table.specs.declared.tables.zone.Zone.{Zone}
use Rattle.pl_block.specs.Bounds.{last_lsn}
use Rattle.pl_table.specs.Tables.Bounds.{most_principals, most_rows}
use Rattle.pl_table.specs.Tables.Setting.{somebody_sets}

-- the principals, the rows in their order, and the landing zone of the epochs that begin under the table
pub record WrittenTable : Type 0 where
  pub principals : List Principal
  pub rows : List Row
  pub zone : Zone

-- the principal that a row names, if it names one, is listed, its range has a partition, and it ends at an LSN
pub record IsRowOf (ps : List Principal) (row : Row) : Type 0 where
  pub who : IfSome row.who (Contains (map (λ p. p.id) ps))
  pub range : IfSome row.range (λ range. range.from ≤ range.to)
  pub through : IfSome row.through (λ lsn. lsn ≤ last_lsn)

-- there are 1 to 64 principals, no two with one id, and at most 256 rows, which let somebody set the table
pub record IsTable (t : WrittenTable) : Type 0 where
  pub some : 0 < length t.principals
  pub few : length t.principals ≤ most_principals
  pub few_rows : length t.rows ≤ most_rows
  pub distinct : IsDistinct nat_eq (map (λ p. p.id) t.principals)
  pub each_row : All (IsRowOf t.principals) t.rows
  pub setter : IsTrue (somebody_sets t.principals t.rows)

-- the token listed for an id
abbrev pub token_of : ℕ → List Principal → Option (List ℕ)
token_of id [] = None
token_of id (p ∷ ps) = if p.id == id then Some p.token else token_of id ps
