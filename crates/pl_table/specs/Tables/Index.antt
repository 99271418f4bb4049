-- The index of a table: which rows can match, by the principal that asks and by the operation.
use Rattle.std.specs.Prelude.{◌≡◌, ℕ, ◌+◌, ◌==◌, ◌&&◌, nat_eq, Bool, false, List, [], ◌∷◌, map, find, Option, Some, None, IfSome, if◌then◌else◌}
use Rattle.std.specs.List.{All, Contains}
use Rattle.std.specs.List.Sorted.{IsStrictlyIncreasing}
use Rattle.pl_table.specs.declared.tables.index.OpLists.{OpLists}
use Rattle.pl_table.specs.declared.tables.index.RowIndex.{RowIndex}
use Rattle.pl_table.specs.declared.requests.op.Op.{Op}
use Rattle.pl_table.specs.declared.tables.row.Row.{Row}
use Rattle.pl_table.specs.Requests.Ops.{lists_op, all_ops}
use Rattle.pl_table.specs.Tables.Absent.{part_matches}
use Rattle.pl_table.specs.Requests.Asking.{Asked}

-- the askers that the index distinguishes: each id that rows name, and one that none names
abbrev pub askers : List ℕ → List (Option ℕ)
askers [] = None ∷ []
askers (name ∷ names) = Some name ∷ askers names

-- the asker of an id
abbrev pub asker_of : ℕ → List ℕ → Option ℕ
asker_of id names = find (nat_eq id) names

-- the id is that of the asker
abbrev pub is_asker : Option ℕ → ℕ → Bool
is_asker None id = false
is_asker (Some asker) id = id == asker

-- the row can match a request of the asker: it names nobody, or the asker
abbrev pub can_be_of : Option ℕ → Row → Bool
can_be_of asker row = part_matches (is_asker asker) row.who

-- the row can match a request for the operation: it lists none, or this one
abbrev pub can_be_for : Op → Row → Bool
can_be_for op row = part_matches (lists_op op) row.op

-- the row can match a request of the asker for the operation
abbrev pub can_be : Option ℕ → Op → Row → Bool
can_be asker op row = can_be_of asker row && can_be_for op row

-- the row can match what is asked: it names nobody or its principal, and lists no operation or its own
abbrev pub can_match : Asked → Row → Bool
can_match a row = part_matches (λ who. who == a.principal) row.who && can_be_for a.op row

-- the places of the rows that pass a test, rising, if the first of the list has the place k
abbrev pub places_from : ℕ → (Row → Bool) → List Row → List ℕ
places_from k test [] = []
places_from k test (row ∷ rows) = if test row then k ∷ places_from (k + 1) test rows else places_from (k + 1) test rows

-- for each operation, the places of the rows that can match a request of the asker
abbrev pub places_by_op : List Row → Option ℕ → List (List ℕ)
places_by_op rows asker = map (λ op. places_from 0 (can_be asker op) rows) all_ops

-- the lists that are kept for an asker
abbrev pub lists_of : OpLists → List (List ℕ)
lists_of lists = map (λ list. list.items) lists.by_op.items

-- An index has the ids that rows name, rising, each once. For each asker and each operation it lists
-- the rows that can match.
pub record IsIndexOf (rows : List Row) (index : RowIndex) : Type 0 where
  pub rise : IsStrictlyIncreasing index.names.items
  pub named : All (λ row. IfSome row.who (Contains index.names.items)) rows
  pub lists : map lists_of index.by_asker.items ≡ map (places_by_op rows) (askers index.names.items)
