-- What a text reads as is a table.
use Rattle.std.proofs.Common.{◌≡◌, ℕ, ◌<◌, ◌≤◌, ◌==◌, ◌||◌, eqb, nat_lt, Bool, true, false, not, List, length, map, Result, Ok, Err, ok_or, IfOk, All, refl, arith, if◌then◌else◌}
use Rattle.std.specs.List.{list_all, filter_map, IsDistinct}
use Rattle.std.proofs.lemmas.Bool.Decides.{nat_tests}
use Rattle.toml.specs.Data.{Data}
use Rattle.pl_table.specs.declared.tables.row.Row.{Row}
use Rattle.pl_table.specs.declared.tables.table.Principal.{Principal}
use Rattle.pl_table.specs.declared.tables.fault.TableFault.{TableFault}
use Rattle.pl_table.specs.declared.tables.fault.TableFault.TheVariants.{PrincipalCount, RowCount, PrincipalKeys, PrincipalId, PrincipalToken, RepeatedId, RowKeys, RowWord, RowNumber, NoOperator, BadZone}
use Rattle.pl_block.specs.Faults.{◌>>=◌, Fails}
use Rattle.pl_block.specs.declared.fault.Failed.{Failed}
use Rattle.pl_block.specs.declared.fault.Failed.TheVariants.{Malformed, NoMemory}
use Rattle.pl_table.specs.Tables.Setting.{somebody_sets}
use Rattle.pl_table.specs.Tables.Table.{WrittenTable, IsTable, IsRowOf}
use Rattle.pl_table.specs.Tables.Tree.{tree_of, is_row}
use Rattle.pl_table.specs.Tables.Part.{principal_of, has_words, has_numbers, row_of}
use Rattle.pl_table.specs.Tables.TableText.{Listed, listed_in_tree, counts_of, principals_of, rows_of, setter_of, listed_table, table_reading}
use Rattle.pl_table.proofs.Listings.{length-principals, length-filter_map, IsDistinct-own_ids}
use Rattle.pl_table.proofs.Rows.{All-IsRowOf}

-- what holds of each result of the next step holds of the result of both
next : {A B : Type 0} (o : Result A TableFault) (f : A → Result B TableFault) (P : B → Type 0) → ((x : A) → o ≡ Ok x → IfOk (f x) P) → IfOk (o >>= f) P
next (Ok x) f P each = each x refl
next (Err e) f P each = tt

-- the failure of the first step is the failure of all
pub fails_first : {A B : Type 0} (e : Failed TableFault) (read : Result A TableFault) (f : A → Result B TableFault) → Fails e read → Fails e (read >>= f)
fails_first NoMemory read f fails = tt
fails_first (Malformed fault) read f fails = rw fails refl

-- what holds if a fault is not there
unless : {A : Type 0} (b : Bool) (e : TableFault) (o : Result A TableFault) (P : A → Type 0) → (b ≡ false → IfOk o P) → IfOk (if b then Err e else o) P
unless true e o P h = tt
unless false e o P h = h refl

not_false : (b : Bool) → not b ≡ false → b ≡ true
not_false true h = refl
not_false false h = cc

-- the fact of what is known to be the result
of_result : {A : Type 0} (o : Result A TableFault) (P : A → Type 0) (x : A) → IfOk o P → o ≡ Ok x → P x
of_result o P x h e = rw e at h

-- what each part of a table is known to be
abbrev AreFew : ℕ → ℕ → Type 0
AreFew m n = (0 < m) × (m ≤ 64) × (n ≤ 256)

abbrev AreApart : List Data → List Principal → Type 0
AreApart ds ps = (length ps ≡ length ds) × IsDistinct eqb (map (λ p. p.id) ps)

abbrev AreOf : List Principal → List Data → List Row → Type 0
AreOf ps ds rows = (length rows ≤ length ds) × All (IsRowOf ps) rows

counted : (m n : ℕ) → IfOk (counts_of m n) (λ u. AreFew m n)
unfolding counts_of
counted m n =
    unless (m == 0 || nat_lt 64 m) PrincipalCount _ (λ u. AreFew m n) (λ p.
    unless (nat_lt 256 n) RowCount (Ok tt) (λ u. AreFew m n) (λ r. (grind (arith, nat_tests), grind (arith, nat_tests), grind (arith, nat_tests))))

read_apart : (ds : List Data) → IfOk (principals_of ds) (AreApart ds)
unfolding principals_of
read_apart ds =
    unless _ PrincipalKeys _ (AreApart ds) (λ k.
    unless _ PrincipalId _ (AreApart ds) (λ i.
    unless _ PrincipalToken _ (AreApart ds) (λ t.
    unless _ RepeatedId (Ok (filter_map principal_of ds)) (AreApart ds) (λ o. (length-principals (λ d. d) ds (not_false _ i) (not_false _ t), IsDistinct-own_ids _ (not_false _ o))))))

unless_three : {A : Type 0} (a b c : Bool) (e f g : TableFault) (o : Result A TableFault) (P : A → Type 0) → IfOk o P → IfOk (if not a then Err e else if not b then Err f else if not c then Err g else o) P
unless_three false b c e f g o P h = tt
unless_three true false c e f g o P h = tt
unless_three true true false e f g o P h = tt
unless_three true true true e f g o P h = h

read_of : (ps : List Principal) (ds : List Data) → IfOk (rows_of ps ds) (AreOf ps ds)
unfolding rows_of
read_of ps ds = unless_three (list_all is_row ds) (list_all has_words ds) (list_all (has_numbers ps) ds) RowKeys RowWord RowNumber (Ok (filter_map (row_of ps) ds)) (AreOf ps ds) (length-filter_map (row_of ps) ds, All-IsRowOf (λ d. d) ps ds)

set_if : (b : Bool) (o : Result (Unit {0}) TableFault) (u : Unit {0}) → o ≡ (if b then Ok tt else Err NoOperator) → o ≡ Ok u → b ≡ true
set_if true o u is e = refl
set_if false o u is e = absurd cc

set_by : (ps : List Principal) (rows : List Row) (u : Unit {0}) → setter_of ps rows ≡ Ok u → somebody_sets ps rows ≡ true
set_by ps rows u e = set_if (somebody_sets ps rows) (setter_of ps rows) u refl e

of_lists : (l : Listed) → IfOk (listed_table l) IsTable
unfolding listed_table
of_lists l =
    next (counts_of (length l.principals) (length l.rows)) _ IsTable (λ u c.
    next (principals_of l.principals) _ IsTable (λ ps p.
    next (rows_of ps l.rows) _ IsTable (λ rows r.
    next (setter_of ps rows) _ IsTable (λ setter s.
    next (ok_or l.zone BadZone) _ IsTable (λ zone z.
    let counts = of_result _ (λ u. AreFew (length l.principals) (length l.rows)) u (counted (length l.principals) (length l.rows)) c in
    let ids = of_result _ (AreApart l.principals) ps (read_apart l.principals) p in
    let each = of_result _ (AreOf ps l.rows) rows (read_of ps l.rows) r in
    record { some = omega arith; few = omega arith; few_rows = omega arith; distinct = ids.1; each_row = each.1; setter = set_by ps rows setter s })))))

-- a text reads as nothing but tables
pub reads_as_table : (text : List ℕ) (t : WrittenTable) → table_reading text ≡ Ok t → IsTable t
unfolding table_reading
reads_as_table text t e = of_result (table_reading text) IsTable t (next (tree_of text) _ IsTable (λ tree d. next (listed_in_tree tree) _ IsTable (λ l k. of_lists l))) e
