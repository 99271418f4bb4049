-- Each row that is read names a principal that is listed, has a range with a partition, and ends at an LSN.
use Rattle.std.proofs.Common.{◌≡◌, ℕ, ◌-◌, ◌^◌, ◌≤◌, codes, nat_le, eqb, ◌==◌, Bool, true, false, List, [], ◌∷◌, map, Option, Some, None, option_map, option_and_then, IfSome, Contains, All, pos, negsuc, refl, sym, ◌∙◌, arith, if◌then◌else◌}
use Rattle.std.specs.List.{AllByRecursion, list_any, filter_map, cons_option}
use Rattle.std.proofs.lemmas.Bool.{eqb-true}
use Rattle.std.proofs.lemmas.Bool.Decides.{nat_tests}
use Rattle.std.proofs.lemmas.List.Elements.{All-from_recursion}
use Rattle.std.proofs.lemmas.Map.Views.{Contains-from_any}
use Rattle.toml.specs.Data.{Data, string, integer, float, boolean, datetime, array, table, get}
use Rattle.pl_table.specs.declared.tables.range.PartitionRange.{PartitionRange}
use Rattle.pl_table.specs.declared.tables.table.Principal.{Principal}
use Rattle.pl_block.specs.Bounds.{last_lsn}
use Rattle.pl_table.specs.Tables.Part.{number_up_to, if_there, listed_in, range_between, range_from, verdict_under, role_under, ops_under, who_under, range_under, through_under, row_of}
use Rattle.pl_table.specs.Tables.Table.{IsRowOf}

-- what holds of each result of the next step holds of the result of both
if_next : {A B : Type 0} (o : Option A) (f : A → Option B) (P : B → Type 0) → ((x : A) → o ≡ Some x → IfSome (f x) P) → IfSome (option_and_then f o) P
if_next None f P each = tt
if_next (Some x) f P each = each x refl

wrapped : {A : Type 0} (o : Option A) (P : A → Type 0) → IfSome o P → IfSome (option_map Some o) (λ part. IfSome part P)
wrapped None P h = tt
wrapped (Some x) P h = h

-- what holds of a part that is there holds of one that may be absent
if_part : {A : Type 0} (read : Data → Option A) (P : A → Type 0) → ((d : Data) → IfSome (read d) P) → (o : Option Data) → IfSome (if_there read o) (λ part. IfSome part P)
unfolding if_there
if_part read P each None = tt
if_part read P each (Some d) = wrapped (read d) P (each d)

-- the fact of what is known to be read
if_read : {A : Type 0} (o : Option A) (P : A → Type 0) (x : A) → IfSome o P → o ≡ Some x → P x
if_read o P x h e = rw e at h

lists_id : (id : ℕ) (ps : List Principal) → list_any (λ p. p.id == id) ps ≡ list_any (eqb id) (map (λ p. p.id) ps)
lists_id id [] = refl
lists_id id (p ∷ ps) = grind (arith, nat_tests, lists_id id ps)

kept_id : (ids : List ℕ) (id : ℕ) (b : Bool) → (b ≡ true → Contains ids id) → IfSome (if b then Some id else None) (Contains ids)
kept_id ids id true h = h refl
kept_id ids id false h = tt

-- an id that is found among those of the principals is one of them
id_is_listed : (ps : List Principal) (d : Data) → IfSome (listed_in ps d) (Contains (map (λ p. p.id) ps))
unfolding listed_in
id_is_listed ps d = if_next (number_up_to (2 ^ 32 - 1) d) _ (Contains (map (λ p. p.id) ps)) (λ id e. kept_id (map (λ p. p.id) ps) id _ (λ found. Contains-from_any eqb-true id (map (λ p. p.id) ps) (sym (lists_id id ps) ∙ found)))

in_order : (from to : ℕ) (b : Bool) → nat_le from to ≡ b → IfSome {T = PartitionRange} (if b then Some (record { from = from; to = to }) else None) (λ range. range.from ≤ range.to)
in_order from to true e = grind (arith, nat_tests)
in_order from to false e = tt

between : (from to : Option ℕ) → IfSome (range_between from to) (λ range. range.from ≤ range.to)
unfolding range_between
between None to = tt
between (Some from) None = tt
between (Some from) (Some to) = in_order from to (nat_le from to) refl

range_is_some : (from to : Option Data) → IfSome (range_from from to) (λ part. IfSome part (λ range. range.from ≤ range.to))
unfolding range_from
range_is_some None None = tt
range_is_some None (Some to) = tt
range_is_some (Some from) None = tt
range_is_some (Some from) (Some to) = wrapped _ (λ range. range.from ≤ range.to) (between (number_up_to 65535 from) (number_up_to 65535 to))

up_to_most : (most n : ℕ) (b : Bool) → nat_le n most ≡ b → IfSome (if b then Some n else None) (λ n. n ≤ most)
up_to_most most n true e = grind (arith, nat_tests)
up_to_most most n false e = tt

-- a number that is read is at most the most
up_to : (most : ℕ) (d : Data) → IfSome (number_up_to most d) (λ n. n ≤ most)
unfolding number_up_to
up_to most (string s) = tt
up_to most (integer (pos n)) = up_to_most most n (nat_le n most) refl
up_to most (integer (negsuc n)) = tt
up_to most (float x) = tt
up_to most (boolean b) = tt
up_to most (datetime d) = tt
up_to most (array ds) = tt
up_to most (table ms) = tt

row_is_row_of : (ps : List Principal) (d : Data) → IfSome (row_of ps d) (IsRowOf ps)
unfolding row_of who_under range_under through_under
row_is_row_of ps d =
    if_next (verdict_under d) _ (IsRowOf ps) (λ allows a.
    if_next (who_under ps d) _ (IsRowOf ps) (λ who w.
    if_next (role_under d) _ (IsRowOf ps) (λ role r.
    if_next (range_under d) _ (IsRowOf ps) (λ range g.
    if_next (through_under d) _ (IsRowOf ps) (λ through t.
    if_next (ops_under d) _ (IsRowOf ps) (λ op o. record {
      who = if_read _ (λ who. IfSome who (Contains (map (λ p. p.id) ps))) who (if_part (listed_in ps) _ (id_is_listed ps) (get (codes "who") d)) w;
      range = if_read _ (λ range. IfSome range (λ range. range.from ≤ range.to)) range (range_is_some (get (codes "from") d) (get (codes "to") d)) g;
      through = if_read _ (λ through. IfSome through (λ lsn. lsn ≤ last_lsn)) through (if_part (number_up_to last_lsn) _ (up_to last_lsn) (get (codes "through") d)) t;
    }))))))

added : {B : Type 0} (P : B → Type 0) (o : Option B) (ys : List B) → IfSome o P → AllByRecursion P ys → AllByRecursion P (cons_option o ys)
added P None ys h all = all
added P (Some y) ys h all = (h, all)

each_read : {A B : Type 0} (f : A → Option B) (P : B → Type 0) → ((x : A) → IfSome (f x) P) → (xs : List A) → AllByRecursion P (filter_map f xs)
each_read f P each [] = tt
each_read f P each (x ∷ xs) = added P (f x) (filter_map f xs) (each x) (each_read f P each xs)

-- the rows that are read of some data are rows of a table of these principals
pub All-IsRowOf : {X : Type 0} (read : X → Data) (ps : List Principal) (xs : List X) → All (IsRowOf ps) (filter_map (λ x. row_of ps (read x)) xs)
All-IsRowOf read ps xs = All-from_recursion (IsRowOf ps) _ (each_read (λ x. row_of ps (read x)) (IsRowOf ps) (λ x. row_is_row_of ps (read x)) xs)
