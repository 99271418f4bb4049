-- The table that a text writes down, or the first of its faults.
use Rattle.std.specs.Prelude.{ℕ, ◌==◌, Bool, true, ◌&&◌, ◌||◌, not, nat_lt, List, [], ◌∷◌, length, filter_map, Option, Some, is_some, Result, Ok, Err, ok_or, if◌then◌else◌, codes}
use Rattle.std.specs.List.{list_all, list_any}
use Rattle.toml.specs.Data.{Data, Members, get_member}
use Rattle.pl_table.specs.declared.tables.row.Row.{Row}
use Rattle.pl_table.specs.declared.tables.table.Principal.{Principal}
use Rattle.pl_table.specs.declared.tables.zone.Zone.{Zone}
use Rattle.pl_table.specs.declared.tables.fault.TableFault.{TableFault}
use Rattle.pl_table.specs.declared.tables.fault.TableFault.TheVariants.{UnknownKey, PrincipalCount, RowCount, PrincipalKeys, PrincipalId, PrincipalToken, RepeatedId, RowKeys, RowWord, RowNumber, NoOperator, BadZone}
use Rattle.pl_table.specs.Tables.Bounds.{most_principals, most_rows}
use Rattle.pl_block.specs.Faults.{◌>>=◌}
use Rattle.pl_table.specs.Tables.Setting.{somebody_sets}
use Rattle.pl_table.specs.Tables.Table.{WrittenTable}
use Rattle.pl_table.specs.Tables.Tree.{tree_of, keys_of, is_one_of, top_keys, tables_under, is_principal, is_row}
use Rattle.pl_table.specs.Tables.Part.{id_under, token_under, principal_of, has_words, has_numbers, row_of, zone_read}

-- the principals and the rows of a text, each still a table of the tree, and the zone, if its numbers read
pub record Listed : Type 0 where
  pub principals : List Data
  pub rows : List Data
  pub zone : Option Zone

-- the two lists and the zone
abbrev pub listed_of : List Data → List Data → Option Zone → Listed
listed_of ps rows zone = record { principals = ps; rows = rows; zone = zone }

-- both lists, if each is an array of tables, and the zone
abbrev pub both_lists : Option (List Data) → Option (List Data) → Option Zone → Result Listed TableFault
both_lists (Some ps) (Some rows) zone = Ok (listed_of ps rows zone)
both_lists _ _ _ = Err UnknownKey

-- the two lists and the zone of a tree that has no other key
unfoldable pub listed_in_tree : Members → Result Listed TableFault
listed_in_tree tree = if list_all (is_one_of top_keys) (keys_of tree) then both_lists (tables_under (get_member (codes "principal") tree)) (tables_under (get_member (codes "row") tree)) (zone_read (get_member (codes "copies") tree) (get_member (codes "quorum") tree)) else Err UnknownKey

-- there are 1 to 64 principals, and at most 256 rows
unfoldable pub counts_of : ℕ → ℕ → Result (Unit {0}) TableFault
counts_of principals rows = if principals == 0 || nat_lt most_principals principals then Err PrincipalCount else if nat_lt most_rows rows then Err RowCount else Ok tt

-- no two of the principals have one id
abbrev pub have_own_ids : List Principal → Bool
have_own_ids [] = true
have_own_ids (p ∷ ps) = not (list_any (λ other. p.id == other.id) ps) && have_own_ids ps

-- the principals, or the first fault of any of them
unfoldable pub principals_of : List Data → Result (List Principal) TableFault
principals_of ps =
    if not (list_all is_principal ps) then Err PrincipalKeys
    else if not (list_all (λ p. is_some (id_under p)) ps) then Err PrincipalId
    else if not (list_all (λ p. is_some (token_under p)) ps) then Err PrincipalToken
    else if not (have_own_ids (filter_map principal_of ps)) then Err RepeatedId
    else Ok (filter_map principal_of ps)

-- the rows, or the first fault of any of them
unfoldable pub rows_of : List Principal → List Data → Result (List Row) TableFault
rows_of ps rows =
    if not (list_all is_row rows) then Err RowKeys
    else if not (list_all has_words rows) then Err RowWord
    else if not (list_all (has_numbers ps) rows) then Err RowNumber
    else Ok (filter_map (row_of ps) rows)

-- somebody may set the table
abbrev pub setter_of : List Principal → List Row → Result (Unit {0}) TableFault
setter_of ps rows = if somebody_sets ps rows then Ok tt else Err NoOperator

-- the table of its two lists and its zone
unfoldable pub listed_table : Listed → Result WrittenTable TableFault
listed_table listed = do
  counts ← counts_of (length listed.principals) (length listed.rows)
  principals ← principals_of listed.principals
  rows ← rows_of principals listed.rows
  setter ← setter_of principals rows
  zone ← ok_or listed.zone BadZone
  Ok (record { principals = principals; rows = rows; zone = zone })

-- the table of a text
unfoldable pub table_reading : List ℕ → Result WrittenTable TableFault
table_reading text = do
  tree ← tree_of text
  listed ← listed_in_tree tree
  listed_table listed
