-- The written order, and the decision: the denial of the first rule of the order that denies a
-- request.
use Rattle.std.specs.Prelude.{◌≡◌, ◌≢◌, ◌↔◌, ℕ, false, true, List, [], ◌∷◌, ◌++◌, length, map, All, if◌then◌else◌}
use Rattle.std.specs.List.{range_with_len}
use Rattle.pl_table.specs.declared.tables.verdict.Verdict.{Verdict}
use Rattle.pl_table.specs.declared.tables.verdict.Verdict.TheVariants as verdicts
use Rattle.pl_table.specs.Requests.Request.{Query}
use Rattle.pl_table.specs.Tables.Table.{WrittenTable}
use Rattle.pl_decide.specs.declared.rule.Rule.{Rule}
use Rattle.pl_decide.specs.declared.rule.Rule.TheVariants.{UnknownPrincipal, OlderEpoch, NewerEpoch, OtherPrimary, RoleLacksOperation, TableRow, NoRowMatches, AboveTheEnd, HardenedAlready, AboveTheWindow, OtherContent, NoSuchCopy, BelowQuorum, NoTable, UnlistedPrimary, LastEpoch}
use Rattle.pl_decide.specs.declared.view.Epochs.{Epochs}
use Rattle.pl_decide.specs.declared.view.View.{View}
use Rattle.pl_decide.specs.Rules.{stands_against, denial}

-- who asks, in which epoch and role
abbrev pub section_a : List Rule
section_a = UnknownPrincipal ∷ OlderEpoch ∷ NewerEpoch ∷ OtherPrimary ∷ RoleLacksOperation ∷ []

-- the rows of the table, from the first on, and the rule for what none of them matches
abbrev pub section_b : ℕ → List Rule
section_b rows = map TableRow (range_with_len 1 rows) ++ NoRowMatches ∷ []

-- what the log has, a new table, a new primary
abbrev pub section_c : List Rule
section_c = AboveTheEnd ∷ HardenedAlready ∷ AboveTheWindow ∷ OtherContent ∷ NoSuchCopy ∷ BelowQuorum
    ∷ NoTable ∷ UnlistedPrimary ∷ LastEpoch ∷ []

-- the rules in their order, for a table with this number of rows
abbrev pub written_order : ℕ → List Rule
written_order rows = section_a ++ section_b rows ++ section_c

-- the written order at a table
abbrev pub order_of : WrittenTable → List Rule
order_of t = written_order (length t.rows)

-- the denial of the first rule that denies the request
abbrev pub first_denial : List Rule → Query → WrittenTable → Epochs → View → Verdict
first_denial [] q t e v = verdicts.Allowed
first_denial (rule ∷ rules) q t e v =
    if stands_against rule q t e v then denial rule q.act e v else first_denial rules q t e v

-- the verdict by the whole written order
abbrev pub decision : Query → WrittenTable → Epochs → View → Verdict
decision q t e v = first_denial (order_of t) q t e v

-- no rule of the order denies the request
abbrev pub NoneStands : List Rule → Query → WrittenTable → Epochs → View → Type 0
NoneStands order q t e v = All (λ rule. stands_against rule q t e v ≡ false) order

-- the rule denies the request, and no rule before it in the order does
pub record IsFirst (rule : Rule) (order : List Rule) (q : Query) (t : WrittenTable) (e : Epochs)
    (v : View) : Type 0 where
  pub before : List Rule
  pub after : List Rule
  pub place : order ≡ before ++ rule ∷ after
  pub stands : stands_against rule q t e v ≡ true
  pub none_before : NoneStands before q t e v

-- the verdict is the denial of the first rule that denies, with its section, number and value
abbrev pub IsFirstDenial : Verdict → List Rule → Query → WrittenTable → Epochs → View → Type 0
IsFirstDenial verdict order q t e v =
    (rule : Rule) × IsFirst rule order q t e v × (verdict ≡ denial rule q.act e v)

-- the verdict is Allowed exactly if no rule of the order denies the request
abbrev pub AllowsExactly : Verdict → Query → WrittenTable → Epochs → View → Type 0
AllowsExactly verdict q t e v = (verdict ≡ verdicts.Allowed) ↔ NoneStands (order_of t) q t e v

-- a verdict that denies is the denial of the first rule of the order that does
abbrev pub DeniesByTheFirst : Verdict → Query → WrittenTable → Epochs → View → Type 0
DeniesByTheFirst verdict q t e v =
    verdict ≢ verdicts.Allowed → IsFirstDenial verdict (order_of t) q t e v
