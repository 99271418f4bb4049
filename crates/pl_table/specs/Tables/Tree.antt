-- The tree of a text: its keys, and the tables that they list.
use Rattle.std.specs.Prelude.{ℕ, Bool, false, ◌&&◌, List, [], ◌∷◌, Option, Some, None, Result, Err, if◌then◌else◌, codes, is_some, ok_or}
use Rattle.std.specs.Bool.{beq}
use Rattle.std.specs.Str.{is_utf8, bytes_eq}
use Rattle.std.specs.List.{list_all, list_any}
use Rattle.toml.specs.Data.{Data, array, table, Items, no_items, item, Members, no_members, member, get, as_table}
use Rattle.toml.specs.Parse.{parse_document}
use Rattle.pl_table.specs.declared.tables.fault.TableFault.{TableFault}
use Rattle.pl_table.specs.declared.tables.fault.TableFault.TheVariants.{NoDocument}

-- the tree of a text that is UTF-8 and a TOML document
unfoldable pub tree_of : List ℕ → Result Members TableFault
tree_of text = if is_utf8 text then ok_or (parse_document text) NoDocument else Err NoDocument

-- the keys of a table
abbrev pub keys_of : Members → List (List ℕ)
keys_of no_members = []
keys_of (member key d ms) = key ∷ keys_of ms

-- the items of an array
abbrev pub list_of : Items → List Data
list_of no_items = []
list_of (item d ds) = d ∷ list_of ds

-- the key is one of the names
unfoldable pub is_one_of : List (List ℕ) → List ℕ → Bool
is_one_of names key = list_any (λ name. bytes_eq key name) names

-- the value is a table, each of whose keys is one of the names
unfoldable pub has_only : List (List ℕ) → Data → Bool
has_only names (table ms) = list_all (is_one_of names) (keys_of ms)
has_only names _ = false

-- the value is a table
unfoldable pub is_table : Data → Bool
is_table d = is_some (as_table d)

-- the tables that a value lists, if it is an array of tables
unfoldable pub tables_in : Data → Option (List Data)
tables_in (array ds) = if list_all is_table (list_of ds) then Some (list_of ds) else None
tables_in _ = None

-- the tables under a key: none if the key is absent
unfoldable pub tables_under : Option Data → Option (List Data)
tables_under None = Some []
tables_under (Some d) = tables_in d

-- the keys of the whole text
unfoldable pub top_keys : List (List ℕ)
top_keys = codes "principal" ∷ codes "row" ∷ codes "copies" ∷ codes "quorum" ∷ []

-- the keys of a principal
unfoldable pub principal_keys : List (List ℕ)
principal_keys = codes "id" ∷ codes "token" ∷ []

-- the keys of a row
unfoldable pub row_keys : List (List ℕ)
row_keys = codes "verdict" ∷ codes "who" ∷ codes "role" ∷ codes "op" ∷ codes "from" ∷ codes "to" ∷ codes "through" ∷ []

-- a principal has its id and its token, and no other key
unfoldable pub is_principal : Data → Bool
is_principal p = has_only principal_keys p && (is_some (get (codes "id") p) && is_some (get (codes "token") p))

-- a row has its verdict, both ends of a range or none, and no key that is not one of a row
unfoldable pub is_row : Data → Bool
is_row row = has_only row_keys row && (is_some (get (codes "verdict") row) && beq (is_some (get (codes "from") row)) (is_some (get (codes "to") row)))
