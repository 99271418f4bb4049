-- Any order of rules: the first that denies the request decides, and if none does the request is allowed.
use Rattle.std.proofs.Common.{◌≡◌, ◌≢◌, Bool, true, false, cond, List, [], ◌∷◌, ◌++◌, refl, sym, ap, ◌∙◌, inl, inr}
use Rattle.std.specs.Prelude.{◌↔◌}
use Rattle.std.proofs.lemmas.Bool.{cases_Bool}
use Rattle.std.proofs.lemmas.List.Elements.{All-nil, All-cons, All-head, All-tail}
use Rattle.pl_table.specs.declared.tables.verdict.Verdict.{Verdict}
use Rattle.pl_table.specs.declared.tables.verdict.Verdict.TheVariants as verdicts
use Rattle.pl_table.specs.Requests.Request.{Query}
use Rattle.pl_table.specs.Tables.Table.{WrittenTable}
use Rattle.pl_decide.specs.declared.rule.Rule.{Rule}
use Rattle.pl_decide.specs.declared.view.Epochs.{Epochs}
use Rattle.pl_decide.specs.declared.view.View.{View}
use Rattle.pl_decide.specs.Rules.{stands_against, denial}
use Rattle.pl_table.specs.declared.tables.verdict.Section.TheVariants as sections
use Rattle.pl_decide.specs.Asked.{is_known}
use Rattle.pl_decide.specs.WrittenOrder.{first_denial, decision, NoneStands, IsFirstDenial}
use Rattle.pl_decide.specs.Laws.{AllowedExactly, DeniedByTheFirst}

not_denied : (b : Bool) (x next : Verdict) → cond b x next ≡ verdicts.Allowed → (x ≡ verdicts.Allowed → ⊥) → (b ≡ false) × (next ≡ verdicts.Allowed)
not_denied true x next e denies = absurd (denies e)
not_denied false x next e denies = (refl, e)

-- what is allowed, the first rule does not stand against
pub passes : (rule : Rule) (order : List Rule) (q : Query) (t : WrittenTable) (e : Epochs) (v : View) → first_denial (rule ∷ order) q t e v ≡ verdicts.Allowed → (stands_against rule q t e v ≡ false) × (first_denial order q t e v ≡ verdicts.Allowed)
passes rule order q t e v h = not_denied (stands_against rule q t e v) (denial rule q.act e v) (first_denial order q t e v) h (λ d. cc)

none_stands : (order : List Rule) (q : Query) (t : WrittenTable) (e : Epochs) (v : View) → first_denial order q t e v ≡ verdicts.Allowed → NoneStands order q t e v
none_stands [] q t e v h = All-nil (λ (rule : Rule). stands_against rule q t e v ≡ false)
none_stands (rule ∷ order) q t e v h =
    let passed = passes rule order q t e v h in
    All-cons (λ (r : Rule). stands_against r q t e v ≡ false) rule order passed.0 (none_stands order q t e v passed.1)

-- rules that do not deny are skipped
pub passed_over : (order rest : List Rule) (q : Query) (t : WrittenTable) (e : Epochs) (v : View) → NoneStands order q t e v → first_denial (order ++ rest) q t e v ≡ first_denial rest q t e v
passed_over [] rest q t e v none = refl
passed_over (rule ∷ order) rest q t e v none =
    rw (All-head (λ (r : Rule). stands_against r q t e v ≡ false) rule order none)
    (passed_over order rest q t e v (All-tail (λ (r : Rule). stands_against r q t e v ≡ false) rule order none))

allowed_of : (order : List Rule) (q : Query) (t : WrittenTable) (e : Epochs) (v : View) → NoneStands order q t e v → first_denial order q t e v ≡ verdicts.Allowed
allowed_of [] q t e v none = refl
allowed_of (rule ∷ order) q t e v none =
    rw (All-head (λ (r : Rule). stands_against r q t e v ≡ false) rule order none)
    (allowed_of order q t e v (All-tail (λ (r : Rule). stands_against r q t e v ≡ false) rule order none))

pub allowed_exactly : AllowedExactly
allowed_exactly order q t e v = (none_stands order q t e v, allowed_of order q t e v)

-- a rule in front that does not stand leaves the first that does
after_one : (rule : Rule) (order : List Rule) (q : Query) (t : WrittenTable) (e : Epochs) (v : View) (verdict : Verdict) → stands_against rule q t e v ≡ false → IsFirstDenial verdict order q t e v → IsFirstDenial verdict (rule ∷ order) q t e v
after_one rule order q t e v verdict passed found =
    let first = found.1 in (
      found.0,
      record {
        before = rule ∷ first.before;
        after = first.after;
        place = ap (λ (rs : List Rule). rule ∷ rs) first.place;
        stands = first.stands;
        none_before = All-cons (λ (r : Rule). stands_against r q t e v ≡ false) rule first.before passed first.none_before;
      },
      found.2,
    )

pub denied_by_the_first : DeniedByTheFirst
denied_by_the_first [] q t e v denied = absurd (denied refl)
denied_by_the_first (rule ∷ order) q t e v denied =
    elim (cases_Bool (stands_against rule q t e v)) [
      | inl stands ↦ rw stands (rule, record { before = []; after = order; place = refl; stands = stands; none_before = All-nil (λ (r : Rule). stands_against r q t e v ≡ false) }, refl)
      | inr passed ↦
          let same : first_denial (rule ∷ order) q t e v ≡ first_denial order q t e v = rw passed refl in
          rw passed (after_one rule order q t e v (first_denial order q t e v) passed (denied_by_the_first order q t e v (λ h. denied (same ∙ h))))
    ]

-- ---- of a verdict that is the first denial

pub allowed-of : (verdict : Verdict) (order : List Rule) (q : Query) (t : WrittenTable) (e : Epochs) (v : View) → verdict ≡ first_denial order q t e v → (verdict ≡ verdicts.Allowed) ↔ NoneStands order q t e v
allowed-of verdict order q t e v is = (λ allowed. none_stands order q t e v (sym is ∙ allowed), λ none. is ∙ allowed_of order q t e v none)

pub first-of : (verdict : Verdict) (order : List Rule) (q : Query) (t : WrittenTable) (e : Epochs) (v : View) → verdict ≡ first_denial order q t e v → verdict ≢ verdicts.Allowed → IsFirstDenial verdict order q t e v
first-of verdict order q t e v is denied =
    let found = denied_by_the_first order q t e v (λ allowed. denied (is ∙ allowed)) in
    (found.0, found.1, is ∙ found.2)

-- an unknown principal is denied as that
pub unknown-denied : (q : Query) (t : WrittenTable) (e : Epochs) (v : View) → is_known t q.head ≡ false → decision q t e v ≡ verdicts.Denied sections.A 1 0
unknown-denied q t e v stranger = rw stranger refl
