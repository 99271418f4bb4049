-- Two views that differ in what no rule looks at decide alike.
use Rattle.std.proofs.Common.{◌≡◌, ℕ, zero, suc, ◌+◌, cond, [], ◌∷◌, ◌++◌, length, map, refl, ap, ◌∙◌, inl, inr}
use Rattle.std.specs.List.{range_with_len}
use Rattle.std.proofs.lemmas.Bool.{cases_order, lt-ltb}
use Rattle.pl_table.specs.declared.tables.verdict.Verdict.{Verdict}
use Rattle.pl_table.specs.Requests.Request.{Query}
use Rattle.pl_table.specs.Tables.Table.{WrittenTable}
use Rattle.pl_decide.specs.declared.rule.Rule.TheVariants as rules
use Rattle.pl_decide.specs.declared.view.Epochs.{Epochs}
use Rattle.pl_decide.specs.declared.view.View.{View}
use Rattle.pl_decide.specs.Rules.{stands_against, denial}
use Rattle.pl_decide.specs.WrittenOrder.{section_c, first_denial, decision}
use Rattle.pl_decide.specs.Laws.{LooksAlike, ViewsDecideAlike}
use Rattle.pl_decide.proofs.Acts.{seen, same_log}

-- sections A and B look at no view
same_rows : (k n : ℕ) (q : Query) (t : WrittenTable) (e : Epochs) (v w : View) → first_denial section_c q t e v ≡ first_denial section_c q t e w
    → first_denial (map rules.TableRow (range_with_len k n) ++ rules.NoRowMatches ∷ [] ++ section_c) q t e v ≡ first_denial (map rules.TableRow (range_with_len k n) ++ rules.NoRowMatches ∷ [] ++ section_c) q t e w
same_rows k zero q t e v w same =
    ap (λ (d : Verdict). cond (stands_against rules.NoRowMatches q t e v) (denial rules.NoRowMatches q.act e v) d) same
same_rows k (suc n) q t e v w same =
    ap (λ (d : Verdict). cond (stands_against (rules.TableRow k) q t e v) (denial (rules.TableRow k) q.act e v) d) (same_rows (k + 1) n q t e v w same)

-- section A in front of a verdict
abbrev after_a : Query → WrittenTable → Epochs → View → Verdict → Verdict
after_a q t e v d =
    cond (stands_against rules.UnknownPrincipal q t e v) (denial rules.UnknownPrincipal q.act e v)
    (cond (stands_against rules.OlderEpoch q t e v) (denial rules.OlderEpoch q.act e v)
    (cond (stands_against rules.NewerEpoch q t e v) (denial rules.NewerEpoch q.act e v)
    (cond (stands_against rules.OtherPrimary q t e v) (denial rules.OtherPrimary q.act e v)
    (cond (stands_against rules.RoleLacksOperation q t e v) (denial rules.RoleLacksOperation q.act e v) d))))

same_here : (q : Query) (t : WrittenTable) (e : Epochs) (v w : View) → LooksAlike q.act v w → decision q t e v ≡ decision q t e w
same_here q t e v w alike =
    let moved = seen w.hard w.copies v.agrees v.can_harden in
    ap (λ (n : ℕ). decision q t e (seen n v.copies v.agrees v.can_harden)) alike.hard
    ∙ ap (λ (n : ℕ). decision q t e (seen w.hard n v.agrees v.can_harden)) alike.copies
    ∙ ap (after_a q t e moved) (same_rows 1 (length t.rows) q t e moved w
    (same_log q.head q.act t e w.hard w.copies v.agrees w.agrees v.can_harden w.can_harden alike.agrees alike.can_harden))

pub decide_alike : ViewsDecideAlike
decide_alike q t e v w alike =
    elim (cases_order q.head.epoch e.epoch) [
      | inl same ↦ same_here q t e v w (alike same)
      | inr other ↦ elim other [
        | inl older ↦ rw (lt-ltb q.head.epoch e.epoch older) refl
        | inr newer ↦ rw (lt-ltb e.epoch q.head.epoch newer) refl
      ]
    ]
