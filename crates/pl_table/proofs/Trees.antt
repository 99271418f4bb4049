-- The tree of a text, as the code reads it.
use Rattle.std.proofs.Common.{◌≡◌, ℕ, Bool, true, false, ◌&&◌, ◌||◌, List, [], ◌∷◌, map, Option, Some, None, Err, ok_or, String, Vec, BTreeMap, Global, length, nat_le, is_some, string_bytes, IsUtf8, refl, ap, sym, ◌∙◌, if◌then◌else◌}
use Rattle.std.specs.Str.{is_utf8, bytes_eq}
use denote.Bor.{Bor}
use Rattle.std.specs.List.{list_all, list_any, filter_map, cons_option}
use Rattle.std.specs.Map.{keys_of as map_keys}
use Rattle.std.proofs.lemmas.List.{length-map}
use Rattle.std.proofs.lemmas.Str.{IsUtf8-from_is_utf8, is_utf8-from_IsUtf8}
use Rattle.toml.specs.Data.{Data, Members}
use Rattle.toml.specs.Parse.{parse_document}
use Rattle.toml.specs.View.{view, items_view, members_view}
use Rattle.toml.specs.declared.value.Value.{Value, Array, Table}
use Rattle.toml.proofs.Views.{view-Array, view-Table}
use Rattle.pl_table.specs.declared.tables.fault.TableFault.TheVariants.{NoDocument}
use Rattle.pl_table.specs.Tables.Tree.{tree_of, keys_of, list_of, is_one_of, has_only, is_table, tables_in}
use Rattle.pl_table.specs.Tables.Part.{op_in, ops_in}

-- bytes that are not UTF-8 have no tree
pub tree_of-other : (text : List ℕ) → ¬ (IsUtf8 text) → tree_of text ≡ Err NoDocument
unfolding tree_of
tree_of-other text h = elim (is_utf8 text) as (λ b. is_utf8 text ≡ b → (if b then ok_or (parse_document text) NoDocument else Err NoDocument) ≡ Err NoDocument) [
  | true ↦ λ e. absurd (h (IsUtf8-from_is_utf8 text e))
  | false ↦ λ e. refl
] refl

-- the tree of UTF-8 is that of the document
pub tree_of-text : (text : List ℕ) (read : Option Members) → IsUtf8 text → parse_document text ≡ read → tree_of text ≡ ok_or read NoDocument
unfolding tree_of
tree_of-text text read u e = rw (is_utf8-from_IsUtf8 text u, e)

-- the keys of a map are those of its tree
pub known_keys : (known : List ℕ → Bool) (es : List (String Global × Value)) → list_all (λ k. known (string_bytes k)) (map_keys es) ≡ list_all known (keys_of (members_view es))
known_keys known [] = refl
known_keys known (e ∷ es) = ap (λ b. known (string_bytes e.0) && b) (known_keys known es)

-- a test of what borrowed names point to is one of the names
is_name : (names : List (Bor (List ℕ))) (key : List ℕ) → list_any (λ name. bytes_eq key name.now) names ≡ is_one_of (map (λ name. name.now) names) key
unfolding is_one_of
is_name [] key = refl
is_name (name ∷ names) key = ap (λ b. bytes_eq key name.now || b) (is_name names key)

-- and so it is of each key
pub are_names : (names : List (Bor (List ℕ))) (keys : List (String Global)) → list_all (λ k. list_any (λ name. bytes_eq (string_bytes k) name.now) names) keys ≡ list_all (λ k. is_one_of (map (λ name. name.now) names) (string_bytes k)) keys
are_names names [] = refl
are_names names (k ∷ ks) = rw (is_name names (string_bytes k), are_names names ks) refl

-- the items of an array are its values
pub list_of-items_view : (vs : List Value) → list_of (items_view vs) ≡ map view vs
list_of-items_view [] = refl
list_of-items_view (v ∷ vs) = ap (λ ds. view v ∷ ds) (list_of-items_view vs)

-- a test of all values is one of all their data
pub all_data : (test : Data → Bool) (vs : List Value) → list_all test (map view vs) ≡ list_all (λ v. test (view v)) vs
all_data test [] = refl
all_data test (v ∷ vs) = ap (λ b. test (view v) && b) (all_data test vs)

-- what is read of all values is read of all their data
pub read_data : {A : Type 0} (read : Data → Option A) (vs : List Value) → filter_map read (map view vs) ≡ filter_map (λ v. read (view v)) vs
read_data read [] = refl
read_data read (v ∷ vs) = ap (cons_option (read (view v))) (read_data read vs)

-- a table has only keys that its map has
pub has_only-Table : (names : List (List ℕ)) (m : BTreeMap (String Global) Value) → has_only names (view (Table m)) ≡ list_all (λ k. is_one_of names (string_bytes k)) (map_keys m.entries)
unfolding has_only
has_only-Table names m = rw view-Table (sym (known_keys (is_one_of names) m.entries))

-- an array lists tables if each of its values is one
pub tables_in-Array : (v : Vec Value Global) (b : Bool) → list_all (λ x. is_table (view x)) v.items ≡ b → tables_in (view (Array v)) ≡ (if b then Some (map view v.items) else None)
unfolding tables_in
tables_in-Array v b e = rw (view-Array, list_of-items_view v.items, all_data is_table v.items, e) refl

-- an array lists operations if it has some value and each is one
pub ops_in-Array : (v : Vec Value Global) (b : Bool) → (nat_le 1 (length v.items) && list_all (λ x. is_some (op_in (view x))) v.items) ≡ b → ops_in (view (Array v)) ≡ (if b then Some (filter_map (λ x. op_in (view x)) v.items) else None)
unfolding ops_in
ops_in-Array v b e = rw (view-Array, list_of-items_view v.items, length-map v.items view, all_data (λ d. is_some (op_in d)) v.items, e, read_data op_in v.items) refl

is_some-if : {A : Type 0} (b : Bool) (x : A) → is_some (if b then Some x else None) ≡ b
is_some-if true x = refl
is_some-if false x = refl

-- whether an array lists operations
pub is_some-ops_in : (v : Vec Value Global) → is_some (ops_in (view (Array v))) ≡ (nat_le 1 (length v.items) && list_all (λ x. is_some (op_in (view x))) v.items)
is_some-ops_in v = ap is_some (ops_in-Array v _ refl) ∙ is_some-if _ _
