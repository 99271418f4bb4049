-- What the verdict says of each rule.
use Rattle.std.proofs.Common.{◌≡◌, ℕ, Bool, true, false, not, eqb, List, [], ◌∷◌, ◌++◌, length, Option, Some, None, refl, sym, ap, ◌∙◌, arith}
use Rattle.std.specs.List.{Contains}
use Rattle.std.proofs.lemmas.Bool.{and_right}
use Rattle.std.proofs.lemmas.List.Elements.{All-contains, Contains-append_left, Contains-append_right}
use Rattle.pl_table.specs.declared.tables.verdict.Section.TheVariants as sections
use Rattle.pl_table.specs.declared.tables.verdict.Verdict.{Verdict}
use Rattle.pl_table.specs.declared.tables.verdict.Verdict.TheVariants as verdicts
use Rattle.pl_table.specs.Requests.Request.{Query}
use Rattle.pl_table.specs.Requests.Asking.{asked_in}
use Rattle.pl_table.specs.Tables.Table.{WrittenTable}
use Rattle.pl_table.specs.Tables.FirstMatch.{first_match_from, found_allows, rows_allow}
use Rattle.pl_decide.specs.declared.rule.Rule.{Rule}
use Rattle.pl_decide.specs.declared.rule.Rule.TheVariants as rules
use Rattle.pl_decide.specs.declared.view.Epochs.{Epochs}
use Rattle.pl_decide.specs.declared.view.View.{View}
use Rattle.pl_decide.specs.Asked.{is_known}
use Rattle.pl_decide.specs.Rules.{stands_against, rule_place}
use Rattle.pl_decide.specs.WrittenOrder.{section_a, section_b, section_c, order_of, first_denial, decision, NoneStands}
use Rattle.pl_decide.specs.Laws.{RowsAllowTheAllowed, AllowedMeetsNoRule, is_unknown, KnownIsNotUnknown}
use Rattle.pl_decide.proofs.FirstDenial.{passes, allowed_exactly, denied_by_the_first}
use Rattle.pl_decide.proofs.Rows.{denies_first-is, none_matches-is, rows-none, rows-deny, denies_at, is_unmatched}

-- a rule that the order contains
member : (order : List Rule) (rule : Rule) (q : Query) (t : WrittenTable) (e : Epochs) (v : View) → NoneStands order q t e v → Contains order rule → stands_against rule q t e v ≡ false
member order rule q t e v none there = All-contains (λ (r : Rule). stands_against r q t e v ≡ false) order rule none there

in_a : (t : WrittenTable) (rule : Rule) → Contains section_a rule → Contains (order_of t) rule
in_a t rule there = Contains-append_left (section_a ++ section_b (length t.rows)) section_c rule (Contains-append_left section_a (section_b (length t.rows)) rule there)

in_c : (t : WrittenTable) (rule : Rule) → Contains section_c rule → Contains (order_of t) rule
in_c t rule there = Contains-append_right (section_a ++ section_b (length t.rows)) section_c rule there

-- an allowed request is allowed by the rules that follow those that do not deny it
past : (order rest : List Rule) (q : Query) (t : WrittenTable) (e : Epochs) (v : View) → first_denial (order ++ rest) q t e v ≡ verdicts.Allowed → first_denial rest q t e v ≡ verdicts.Allowed
past [] rest q t e v h = h
past (rule ∷ order) rest q t e v h = past order rest q t e v (passes rule (order ++ rest) q t e v h).1

-- so a row that matches first allows
first_allows : (q : Query) (t : WrittenTable) (e : Epochs) (v : View) (found : Option (ℕ × Bool)) → first_match_from 1 t.rows (asked_in q) ≡ found → first_denial (section_b (length t.rows) ++ section_c) q t e v ≡ verdicts.Allowed → found_allows found ≡ true
first_allows q t e v None is h = absurd (let clash : verdicts.Denied sections.B 0 0 ≡ verdicts.Allowed = sym (rows-none q t e v is) ∙ h in cc)
first_allows q t e v (Some (number, true)) is h = refl
first_allows q t e v (Some (number, false)) is h = absurd (let clash : verdicts.Denied sections.B number 0 ≡ verdicts.Allowed = sym (rows-deny q t e v number is) ∙ h in cc)

pub rows_allow_own : RowsAllowTheAllowed
rows_allow_own q t e v h = first_allows q t e v (first_match_from 1 t.rows (asked_in q)) refl (past section_a (section_b (length t.rows) ++ section_c) q t e v h)

allowing : (found : Option (ℕ × Bool)) → found_allows found ≡ true → (row : ℕ) → (denies_at row found ≡ false) × (is_unmatched found ≡ false)
allowing None h row = absurd cc
allowing (Some (number, true)) h row = (and_right (eqb number row) false refl, refl)
allowing (Some (number, false)) h row = absurd cc

-- if the rows allow, none of them denies the request, and one matches
pub rows-pass : (q : Query) (t : WrittenTable) (e : Epochs) (v : View) → rows_allow t.rows (asked_in q) ≡ true → (row : ℕ) → (stands_against (rules.TableRow row) q t e v ≡ false) × (stands_against rules.NoRowMatches q t e v ≡ false)
rows-pass q t e v allow row =
    let passed = allowing (first_match_from 1 t.rows (asked_in q)) allow row in
    (denies_first-is row t.rows (asked_in q) ∙ passed.0, none_matches-is 1 t.rows (asked_in q) ∙ passed.1)

-- no rule denies what is allowed
pub stands_not : (rule : Rule) (q : Query) (t : WrittenTable) (e : Epochs) (v : View) → decision q t e v ≡ verdicts.Allowed → stands_against rule q t e v ≡ false
stands_not rules.UnknownPrincipal q t e v h = member (order_of t) rules.UnknownPrincipal q t e v ((allowed_exactly (order_of t) q t e v).0 h) (in_a t rules.UnknownPrincipal (0, omega arith, refl))
stands_not rules.OlderEpoch q t e v h = member (order_of t) rules.OlderEpoch q t e v ((allowed_exactly (order_of t) q t e v).0 h) (in_a t rules.OlderEpoch (1, omega arith, refl))
stands_not rules.NewerEpoch q t e v h = member (order_of t) rules.NewerEpoch q t e v ((allowed_exactly (order_of t) q t e v).0 h) (in_a t rules.NewerEpoch (2, omega arith, refl))
stands_not rules.OtherPrimary q t e v h = member (order_of t) rules.OtherPrimary q t e v ((allowed_exactly (order_of t) q t e v).0 h) (in_a t rules.OtherPrimary (3, omega arith, refl))
stands_not rules.RoleLacksOperation q t e v h = member (order_of t) rules.RoleLacksOperation q t e v ((allowed_exactly (order_of t) q t e v).0 h) (in_a t rules.RoleLacksOperation (4, omega arith, refl))
stands_not (rules.TableRow row) q t e v h = (rows-pass q t e v (rows_allow_own q t e v h) row).0
stands_not rules.NoRowMatches q t e v h = (rows-pass q t e v (rows_allow_own q t e v h) 0).1
stands_not rules.AboveTheEnd q t e v h = member (order_of t) rules.AboveTheEnd q t e v ((allowed_exactly (order_of t) q t e v).0 h) (in_c t rules.AboveTheEnd (0, omega arith, refl))
stands_not rules.HardenedAlready q t e v h = member (order_of t) rules.HardenedAlready q t e v ((allowed_exactly (order_of t) q t e v).0 h) (in_c t rules.HardenedAlready (1, omega arith, refl))
stands_not rules.AboveTheWindow q t e v h = member (order_of t) rules.AboveTheWindow q t e v ((allowed_exactly (order_of t) q t e v).0 h) (in_c t rules.AboveTheWindow (2, omega arith, refl))
stands_not rules.OtherContent q t e v h = member (order_of t) rules.OtherContent q t e v ((allowed_exactly (order_of t) q t e v).0 h) (in_c t rules.OtherContent (3, omega arith, refl))
stands_not rules.NoSuchCopy q t e v h = member (order_of t) rules.NoSuchCopy q t e v ((allowed_exactly (order_of t) q t e v).0 h) (in_c t rules.NoSuchCopy (4, omega arith, refl))
stands_not rules.BelowQuorum q t e v h = member (order_of t) rules.BelowQuorum q t e v ((allowed_exactly (order_of t) q t e v).0 h) (in_c t rules.BelowQuorum (5, omega arith, refl))
stands_not rules.NoTable q t e v h = member (order_of t) rules.NoTable q t e v ((allowed_exactly (order_of t) q t e v).0 h) (in_c t rules.NoTable (6, omega arith, refl))
stands_not rules.UnlistedPrimary q t e v h = member (order_of t) rules.UnlistedPrimary q t e v ((allowed_exactly (order_of t) q t e v).0 h) (in_c t rules.UnlistedPrimary (7, omega arith, refl))
stands_not rules.LastEpoch q t e v h = member (order_of t) rules.LastEpoch q t e v ((allowed_exactly (order_of t) q t e v).0 h) (in_c t rules.LastEpoch (8, omega arith, refl))

pub meets_no_rule : AllowedMeetsNoRule
meets_no_rule q t e v h rule = stands_not rule q t e v h

-- ---- only the first rule's denial is that of an unknown principal

abbrev tells_unknown : Verdict → Bool
tells_unknown verdicts.Allowed = false
tells_unknown (verdicts.Denied section row value) = is_unknown section row

named : (rule : Rule) (q : Query) (t : WrittenTable) (e : Epochs) (v : View) → is_known t q.head ≡ true → stands_against rule q t e v ≡ true → is_unknown (rule_place rule).0 (rule_place rule).1 ≡ false
named rules.UnknownPrincipal q t e v known stands = absurd (let clash : false ≡ true = sym (ap not known) ∙ stands in cc)
named rules.OlderEpoch q t e v known stands = refl
named rules.NewerEpoch q t e v known stands = refl
named rules.OtherPrimary q t e v known stands = refl
named rules.RoleLacksOperation q t e v known stands = refl
named (rules.TableRow row) q t e v known stands = refl
named rules.NoRowMatches q t e v known stands = refl
named rules.AboveTheEnd q t e v known stands = refl
named rules.HardenedAlready q t e v known stands = refl
named rules.AboveTheWindow q t e v known stands = refl
named rules.OtherContent q t e v known stands = refl
named rules.NoSuchCopy q t e v known stands = refl
named rules.BelowQuorum q t e v known stands = refl
named rules.NoTable q t e v known stands = refl
named rules.UnlistedPrimary q t e v known stands = refl
named rules.LastEpoch q t e v known stands = refl

pub known_is_not_unknown : KnownIsNotUnknown
known_is_not_unknown q t e v known section row value is =
    let found = denied_by_the_first (order_of t) q t e v (λ h. let clash : verdicts.Denied section row value ≡ verdicts.Allowed = sym is ∙ h in cc) in
    ap tells_unknown (sym is ∙ found.2) ∙ named found.0 q t e v known found.1.stands
