-- Setting the table, in terms of rows and of the requests that they match.
use Rattle.std.proofs.Common.{◌≡◌, ℕ, ◌+◌, Bool, true, false, List, [], ◌∷◌, find, Option, Some, None, IsTrue, IsSomeAnd, refl, sym, ◌∙◌}
use Rattle.std.specs.List.{Any}
use Rattle.std.proofs.Math.Bool.{and-true}
use Rattle.std.proofs.lemmas.List.Folds.{Any-from_list_any, list_any-from_Any}
use Rattle.pl_table.specs.declared.requests.op.Role.TheVariants.{Operator}
use Rattle.pl_table.specs.declared.requests.op.Op.TheVariants as ops
use Rattle.pl_table.specs.declared.tables.range.PartitionRange.{PartitionRange}
use Rattle.pl_table.specs.declared.requests.act.Act.TheVariants.{SetTable}
use Rattle.pl_table.specs.declared.tables.row.Row.{Row}
use Rattle.pl_table.specs.declared.tables.table.Principal.{Principal}
use Rattle.pl_table.specs.Requests.Ops.{lists_op}
use Rattle.pl_table.specs.Tables.Absent.{part_matches}
use Rattle.pl_table.specs.Requests.Request.{Query}
use Rattle.pl_table.specs.Requests.Asking.{asked_in}
use Rattle.pl_table.specs.Tables.Row.{row_matches, range_matches, through_matches}
use Rattle.pl_table.specs.Tables.FirstMatch.{first_match_from, found_allows}
use Rattle.pl_table.specs.Tables.Setting.{is_about_setting, allows, somebody_sets}
use Rattle.pl_table.specs.Laws.{AsksToSet, RowsAreAboutSetting, SomebodyIsAllowed}
use Rattle.pl_table.proofs.Acts.{names_none, has_no_number}

-- what sets a table has no LSN, so that a row matches wherever it ends
each_end : (allows : Bool) (through : Option ℕ) → part_matches (through_matches allows None) through ≡ true
each_end allows None = refl
each_end allows (Some end) = refl

-- if none is named each range matches
each_range : (allows : Bool) (range : Option PartitionRange) → part_matches (range_matches allows []) range ≡ true
each_range allows None = refl
each_range true (Some range) = refl
each_range false (Some range) = refl

pub row_of_setting : RowsAreAboutSetting
row_of_setting id q row asks =
    rw (asks.who, asks.role, asks.op, names_none q.act asks.op, each_range row.allows row.range, has_no_number q.act asks.op, each_end row.allows row.through, and-true (part_matches (lists_op ops.SetTable) row.op), and-true _) refl

first_at : (k id : ℕ) (q : Query) (row : Row) (rows : List Row) (b : Bool) → is_about_setting id row ≡ b → row_matches row (asked_in q) ≡ b → allows (find (is_about_setting id) rows) ≡ found_allows (first_match_from (k + 1) rows (asked_in q)) → allows (find (is_about_setting id) (row ∷ rows)) ≡ found_allows (first_match_from k (row ∷ rows) (asked_in q))
first_at k id q row rows true speaks matches later = rw (speaks, matches) refl
first_at k id q row rows false speaks matches later = rw (speaks, matches) later

-- the first row that speaks of it allows if the first that matches does
first_allows : (k id : ℕ) (q : Query) (rows : List Row) → AsksToSet id q → allows (find (is_about_setting id) rows) ≡ found_allows (first_match_from k rows (asked_in q))
first_allows k id q [] asks = refl
first_allows k id q (row ∷ rows) asks = first_at k id q row rows (row_matches row (asked_in q)) (row_of_setting id q row asks) refl (first_allows (k + 1) id q rows asks)

is_allowed : (found : Option (ℕ × Bool)) → found_allows found ≡ true → IsSomeAnd found (λ f. IsTrue f.1)
is_allowed None h = cc
is_allowed (Some f) h = h

found_allowed : (found : Option (ℕ × Bool)) → IsSomeAnd found (λ f. IsTrue f.1) → found_allows found ≡ true
found_allowed None h = absurd h
found_allowed (Some f) h = h

any_weaker : {X : Type 0} (P Q : X → Type 0) → ((x : X) → P x → Q x) → (xs : List X) → Any P xs → Any Q xs
any_weaker P Q f xs any = (any.0, any.1, any.2, any.3, f any.1 any.4)

-- a request of the principal to set a table
abbrev asking : ℕ → Query
asking id = record { head = record { principal = id; token = []; role = Operator; database = 0; epoch = 0 }; act = SetTable [] }

asks : (id : ℕ) → AsksToSet id (asking id)
asks id = record { who = refl; role = refl; op = refl }

pub somebody_is_allowed : SomebodyIsAllowed
unfolding somebody_sets
somebody_is_allowed ps rows =
    let sets = λ (p : Principal). allows (find (is_about_setting p.id) rows) in
    let is_allowed_all = λ (p : Principal). (q : Query) → AsksToSet p.id q → IsSomeAnd (first_match_from 1 rows (asked_in q)) (λ found. IsTrue found.1) in (
      λ h. any_weaker (λ p. sets p ≡ true) is_allowed_all (λ p e q a. is_allowed _ (sym (first_allows 1 p.id q rows a) ∙ e)) ps (Any-from_list_any sets ps h),
      λ any. list_any-from_Any sets ps (any_weaker is_allowed_all (λ p. sets p ≡ true) (λ p each. first_allows 1 p.id (asking p.id) rows (asks p.id) ∙ found_allowed _ (each (asking p.id) (asks p.id))) ps any),
    )
