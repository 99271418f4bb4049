-- The principals and rows that are read of two lists make a table.
use Rattle.std.proofs.Common.{◌≡◌, ◌≤◌, ℕ, suc, Bool, true, false, not, eqb, ◌==◌, ◌||◌, List, [], ◌∷◌, length, map, Option, Some, None, is_some, Ok, Err, refl, ap, ◌∙◌, arith, if◌then◌else◌, ◌<◌, ◌+◌, drop, get_or, sym, append_assoc, ◌++◌}
use Rattle.std.proofs.lemmas.List.{at_drop_more}
use Rattle.std.specs.List.{list_all, list_any, filter_map, cons_option, IsDistinct, AllByRecursion}
use Rattle.std.proofs.lemmas.Bool.{and_parts}
use Rattle.toml.specs.View.{view}
use Rattle.toml.specs.Data.{Data}
use Rattle.toml.specs.declared.value.Value.{Value}
use Rattle.pl_table.specs.declared.tables.table.Principal.{Principal}
use Rattle.pl_table.specs.declared.tables.fault.TableFault.TheVariants.{PrincipalKeys, PrincipalId, PrincipalToken, RepeatedId, RowKeys, RowWord, RowNumber}
use Rattle.pl_table.specs.Tables.Tree.{is_principal, is_row}
use Rattle.pl_table.specs.Tables.Part.{id_under, token_under, principal_of, has_words, has_numbers, row_of}
use Rattle.pl_table.specs.Tables.TableText.{have_own_ids, principals_of, rows_of}
use Rattle.pl_table.proofs.Trees.{all_data, read_data}

-- the principals of some values, in terms of the values themselves
pub principals_of-view : (vs : List Value) → principals_of (map view vs) ≡ (
    if not (list_all (λ v. is_principal (view v)) vs) then Err PrincipalKeys
    else if not (list_all (λ v. is_some (id_under (view v))) vs) then Err PrincipalId
    else if not (list_all (λ v. is_some (token_under (view v))) vs) then Err PrincipalToken
    else if not (have_own_ids (filter_map (λ v. principal_of (view v)) vs)) then Err RepeatedId
    else Ok (filter_map (λ v. principal_of (view v)) vs))
unfolding principals_of
principals_of-view vs = rw (all_data is_principal vs, all_data (λ p. is_some (id_under p)) vs, all_data (λ p. is_some (token_under p)) vs, read_data principal_of vs) refl

-- the rows of some values, in terms of the values themselves
pub rows_of-view : (ps : List Principal) (vs : List Value) → rows_of ps (map view vs) ≡ (
    if not (list_all (λ v. is_row (view v)) vs) then Err RowKeys
    else if not (list_all (λ v. has_words (view v)) vs) then Err RowWord
    else if not (list_all (λ v. has_numbers ps (view v)) vs) then Err RowNumber
    else Ok (filter_map (λ v. row_of ps (view v)) vs))
unfolding rows_of
rows_of-view ps vs = rw (all_data is_row vs, all_data has_words vs, all_data (has_numbers ps) vs, read_data (row_of ps) vs) refl

not_true : (b : Bool) → not b ≡ true → b ≡ false
not_true true h = cc
not_true false h = refl

or_parts : (a b : Bool) → (a || b) ≡ false → (a ≡ false) × (b ≡ false)
or_parts true b h = cc
or_parts false b h = (refl, h)

-- if id and token read, the principal reads
reads : (d : Data) (id : Option ℕ) (token : Option (List ℕ)) → id_under d ≡ id → token_under d ≡ token → is_some id ≡ true → is_some token ≡ true → is_some (principal_of d) ≡ true
unfolding principal_of
reads d (Some id) (Some token) i t h k = rw (i, t) refl
reads d None token i t h k = cc
reads d (Some id) None i t h k = cc

length-some : {A : Type 0} (o : Option A) (xs : List A) → is_some o ≡ true → length (cons_option o xs) ≡ suc (length xs)
length-some (Some x) xs h = refl
length-some None xs h = cc

-- if each id and each token reads, there are as many principals as data
pub length-principals : {X : Type 0} (read : X → Data) (xs : List X) → list_all (λ x. is_some (id_under (read x))) xs ≡ true → list_all (λ x. is_some (token_under (read x))) xs ≡ true → length (filter_map (λ x. principal_of (read x)) xs) ≡ length xs
length-principals read [] i t = refl
length-principals read (x ∷ xs) i t =
    let (i0, is) = and_parts _ _ i in
    let (t0, ts) = and_parts _ _ t in
    length-some (principal_of (read x)) _ (reads (read x) _ _ refl refl i0 t0) ∙ ap suc (length-principals read xs is ts)

length-at_most : {A : Type 0} (o : Option A) (xs : List A) (n : ℕ) → length xs ≤ n → length (cons_option o xs) ≤ suc n
length-at_most (Some x) xs n h = omega arith
length-at_most None xs n h = omega arith

-- one item more: what it gives follows what those before it gave
filter_map-step : {X Y : Type 0} (f : X → Option Y) (xs : List X) (i : ℕ) (x : X) (r : Option Y) → i < length xs → x ≡ get_or xs i x → f x ≡ r → filter_map f (drop i xs) ≡ cons_option r (filter_map f (drop (i + 1) xs))
filter_map-step f xs i x r lt is gives = at_drop_more (filter_map f) xs i x lt ∙ rw (← is, gives) refl

pub filter_map-given : {X Y : Type 0} (f : X → Option Y) (front : List Y) (xs : List X) (i : ℕ) (x : X) (y : Y) → i < length xs → x ≡ get_or xs i x → f x ≡ Some y → (front ++ y ∷ []) ++ filter_map f (drop (i + 1) xs) ≡ front ++ filter_map f (drop i xs)
filter_map-given f front xs i x y lt is gives = append_assoc front (y ∷ []) _ ∙ ap (λ ys. front ++ ys) (sym (filter_map-step f xs i x (Some y) lt is gives))

pub filter_map-passed : {X Y : Type 0} (f : X → Option Y) (front : List Y) (xs : List X) (i : ℕ) (x : X) → i < length xs → x ≡ get_or xs i x → f x ≡ None → front ++ filter_map f (drop (i + 1) xs) ≡ front ++ filter_map f (drop i xs)
filter_map-passed f front xs i x lt is gives = ap (λ ys. front ++ ys) (sym (filter_map-step f xs i x None lt is gives))

-- there are no more rows than values
pub length-filter_map : {A B : Type 0} (f : A → Option B) (xs : List A) → length (filter_map f xs) ≤ length xs
length-filter_map f [] = omega arith
length-filter_map f (x ∷ xs) = length-at_most (f x) (filter_map f xs) (length xs) (length-filter_map f xs)

none_equal : (id : ℕ) (ps : List Principal) → list_any (λ p. id == p.id) ps ≡ false → AllByRecursion (λ n. eqb id n ≡ false) (map (λ p. p.id) ps)
none_equal id [] h = tt
none_equal id (p ∷ ps) h =
    let (here, more) = or_parts _ _ h in
    (here, none_equal id ps more)

-- ids that the test finds to differ are distinct
pub IsDistinct-own_ids : (ps : List Principal) → have_own_ids ps ≡ true → IsDistinct eqb (map (λ p. p.id) ps)
unfolding IsDistinct
IsDistinct-own_ids [] h = tt
IsDistinct-own_ids (p ∷ ps) h =
    let (here, more) = and_parts _ _ h in
    (none_equal p.id ps (not_true _ here), IsDistinct-own_ids ps more)

-- each fault of the principals, if those before it are not there
pub principals_of-keys : (vs : List Value) → list_all (λ v. is_principal (view v)) vs ≡ false → principals_of (map view vs) ≡ Err PrincipalKeys
principals_of-keys vs k = rw (principals_of-view vs, k) refl

pub principals_of-id : (vs : List Value) → list_all (λ v. is_principal (view v)) vs ≡ true → list_all (λ v. is_some (id_under (view v))) vs ≡ false → principals_of (map view vs) ≡ Err PrincipalId
principals_of-id vs k i = rw (principals_of-view vs, k, i) refl

pub principals_of-token : (vs : List Value) → list_all (λ v. is_principal (view v)) vs ≡ true → list_all (λ v. is_some (id_under (view v))) vs ≡ true → list_all (λ v. is_some (token_under (view v))) vs ≡ false → principals_of (map view vs) ≡ Err PrincipalToken
principals_of-token vs k i t = rw (principals_of-view vs, k, i, t) refl

pub principals_of-repeated : (vs : List Value) → list_all (λ v. is_principal (view v)) vs ≡ true → list_all (λ v. is_some (id_under (view v))) vs ≡ true → list_all (λ v. is_some (token_under (view v))) vs ≡ true → have_own_ids (filter_map (λ v. principal_of (view v)) vs) ≡ false → principals_of (map view vs) ≡ Err RepeatedId
principals_of-repeated vs k i t o = rw (principals_of-view vs, k, i, t, o) refl

pub principals_of-all : (vs : List Value) → list_all (λ v. is_principal (view v)) vs ≡ true → list_all (λ v. is_some (id_under (view v))) vs ≡ true → list_all (λ v. is_some (token_under (view v))) vs ≡ true → have_own_ids (filter_map (λ v. principal_of (view v)) vs) ≡ true → principals_of (map view vs) ≡ Ok (filter_map (λ v. principal_of (view v)) vs)
principals_of-all vs k i t o = rw (principals_of-view vs, k, i, t, o) refl

-- each fault of the rows, if those before it are not there
pub rows_of-keys : (ps : List Principal) (vs : List Value) → list_all (λ v. is_row (view v)) vs ≡ false → rows_of ps (map view vs) ≡ Err RowKeys
rows_of-keys ps vs k = rw (rows_of-view ps vs, k) refl

pub rows_of-word : (ps : List Principal) (vs : List Value) → list_all (λ v. is_row (view v)) vs ≡ true → list_all (λ v. has_words (view v)) vs ≡ false → rows_of ps (map view vs) ≡ Err RowWord
rows_of-word ps vs k w = rw (rows_of-view ps vs, k, w) refl

pub rows_of-number : (ps : List Principal) (vs : List Value) → list_all (λ v. is_row (view v)) vs ≡ true → list_all (λ v. has_words (view v)) vs ≡ true → list_all (λ v. has_numbers ps (view v)) vs ≡ false → rows_of ps (map view vs) ≡ Err RowNumber
rows_of-number ps vs k w n = rw (rows_of-view ps vs, k, w, n) refl

pub rows_of-all : (ps : List Principal) (vs : List Value) → list_all (λ v. is_row (view v)) vs ≡ true → list_all (λ v. has_words (view v)) vs ≡ true → list_all (λ v. has_numbers ps (view v)) vs ≡ true → rows_of ps (map view vs) ≡ Ok (filter_map (λ v. row_of ps (view v)) vs)
rows_of-all ps vs k w n = rw (rows_of-view ps vs, k, w, n) refl
