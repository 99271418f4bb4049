-- A pull or a get at another LSN: only the rows and the rule on the hardened end decide otherwise.
use Rattle.std.proofs.Common.{◌≡◌, ℕ, ◌<◌, ◌≤◌, Bool, true, false, [], ◌∷◌, ◌++◌, length, Option, Some, None, refl, sym, ap, ◌∙◌, inl, inr}
use Rattle.std.specs.Prelude.{◌⊎◌, slice_index_or, nat_lt}
use Rattle.std.proofs.lemmas.Bool.{lt-ltb, le-ltb, both_ways}
use Rattle.std.proofs.lemmas.List.Elements.{All-nil, All-cons}
use Rattle.pl_table.specs.declared.requests.head.Head.{Head}
use Rattle.pl_table.specs.declared.requests.act.Act.{Act}
use Rattle.pl_table.specs.declared.tables.verdict.Section.TheVariants as sections
use Rattle.pl_table.specs.declared.tables.verdict.Verdict.TheVariants as verdicts
use Rattle.pl_table.specs.Requests.Request.{Query, op_of}
use Rattle.pl_table.specs.Requests.Asking.{asked_in}
use Rattle.pl_table.specs.Tables.Table.{WrittenTable}
use Rattle.pl_table.specs.Tables.FirstMatch.{first_match_from, found_allows, rows_allow}
use Rattle.pl_decide.specs.declared.rule.Rule.{Rule}
use Rattle.pl_decide.specs.declared.rule.Rule.TheVariants as rules
use Rattle.pl_decide.specs.declared.view.Epochs.{Epochs}
use Rattle.pl_decide.specs.declared.view.View.{View}
use Rattle.pl_decide.specs.Asked.{reads_the_log, act_at}
use Rattle.pl_decide.specs.Rules.{stands_against, denial}
use Rattle.pl_decide.specs.WrittenOrder.{section_a, section_b, section_c, order_of, first_denial, decision, NoneStands}
use Rattle.pl_decide.specs.Laws.{ReadsReachTheEnd, RequestsAskAt}
use Rattle.pl_decide.proofs.FirstDenial.{allowed_exactly, denied_by_the_first, passed_over}
use Rattle.pl_decide.proofs.Rows.{rows-none, rows-deny}
use Rattle.pl_decide.proofs.Each.{meets_no_rule, rows-pass}
use Rattle.pl_decide.proofs.Acts.{asks, IsSameActAs, IsAt, read_at, asks_at}

-- A rule denies both of two such acts, or neither; or it is a rule on the rows, and does not deny if they
-- allow; or it is the one on the hardened end.
number_only : (rule : Rule) (head : Head) (a b : Act) (t : WrittenTable) (e : Epochs) (v : View) → IsSameActAs a b → (stands_against rule (asks head a) t e v ≡ stands_against rule (asks head b) t e v) ⊎ ((rows_allow t.rows (asked_in (asks head b)) ≡ true → stands_against rule (asks head b) t e v ≡ false) ⊎ (rule ≡ rules.AboveTheEnd))
number_only rules.UnknownPrincipal head a b t e v alike = inl refl
number_only rules.OlderEpoch head a b t e v alike = inl refl
number_only rules.NewerEpoch head a b t e v alike = inl refl
number_only rules.OtherPrimary head a b t e v alike = inl refl
number_only rules.RoleLacksOperation head a b t e v alike = inl (rw alike.op refl)
number_only (rules.TableRow row) head a b t e v alike = inr (inl (λ allow. (rows-pass (asks head b) t e v allow row).0))
number_only rules.NoRowMatches head a b t e v alike = inr (inl (λ allow. (rows-pass (asks head b) t e v allow 0).1))
number_only rules.AboveTheEnd head a b t e v alike = inr (inr refl)
number_only rules.HardenedAlready head a b t e v alike = inl (rw alike.block refl)
number_only rules.AboveTheWindow head a b t e v alike = inl (rw alike.block refl)
number_only rules.OtherContent head a b t e v alike = inl (rw alike.block refl)
number_only rules.NoSuchCopy head a b t e v alike = inl (rw alike.copy refl)
number_only rules.BelowQuorum head a b t e v alike = inl (rw alike.op refl)
number_only rules.NoTable head a b t e v alike = inl (rw alike.text refl)
number_only rules.UnlistedPrimary head a b t e v alike = inl (rw alike.primary refl)
number_only rules.LastEpoch head a b t e v alike = inl (rw alike.op refl)

-- the rule on the hardened end, at that LSN
above_the_end : (head : Head) (act : Act) (lsn : ℕ) (t : WrittenTable) (e : Epochs) (v : View) (above : Bool) → reads_the_log (op_of act) ≡ true → IsAt act lsn → nat_lt v.hard lsn ≡ above → stands_against rules.AboveTheEnd (asks head (act_at act lsn)) t e v ≡ above
above_the_end head act lsn t e v above reads at is = rw (← at.alike.op, reads, at.number, is) refl

-- if the rows allow it, no rule but that one denies it
or_the_end : (rule : Rule) (head : Head) (act : Act) (lsn : ℕ) (t : WrittenTable) (e : Epochs) (v : View) → IsAt act lsn → decision (asks head act) t e v ≡ verdicts.Allowed → rows_allow t.rows (asked_in (asks head (act_at act lsn))) ≡ true → (stands_against rule (asks head (act_at act lsn)) t e v ≡ false) ⊎ (rule ≡ rules.AboveTheEnd)
or_the_end rule head act lsn t e v at allowed rows =
    elim (number_only rule head act (act_at act lsn) t e v at.alike) [
      | inl same ↦ inl (sym same ∙ meets_no_rule (asks head act) t e v allowed rule)
      | inr other ↦ elim other [
        | inl passes ↦ inl (passes rows)
        | inr is ↦ inr is
      ]
    ]

-- up to the hardened end none does
none_at : (rule : Rule) (head : Head) (act : Act) (lsn : ℕ) (t : WrittenTable) (e : Epochs) (v : View) → reads_the_log (op_of act) ≡ true → IsAt act lsn → decision (asks head act) t e v ≡ verdicts.Allowed → rows_allow t.rows (asked_in (asks head (act_at act lsn))) ≡ true → lsn ≤ v.hard → stands_against rule (asks head (act_at act lsn)) t e v ≡ false
none_at rule head act lsn t e v reads at allowed rows le =
    elim (or_the_end rule head act lsn t e v at allowed rows) [
      | inl passes ↦ passes
      | inr is ↦ ap (λ (r : Rule). stands_against r (asks head (act_at act lsn)) t e v) is ∙ above_the_end head act lsn t e v false reads at (le-ltb v.hard lsn le)
    ]

allowed_at : (head : Head) (act : Act) (lsn : ℕ) (t : WrittenTable) (e : Epochs) (v : View) → reads_the_log (op_of act) ≡ true → IsAt act lsn → decision (asks head act) t e v ≡ verdicts.Allowed → rows_allow t.rows (asked_in (asks head (act_at act lsn))) ≡ true → lsn ≤ v.hard → decision (asks head (act_at act lsn)) t e v ≡ verdicts.Allowed
allowed_at head act lsn t e v reads at allowed rows le =
    (allowed_exactly (order_of t) (asks head (act_at act lsn)) t e v).1
    (λ k d lt. none_at (slice_index_or (order_of t) k d) head act lsn t e v reads at allowed rows le)

-- above it that one rule denies it, and no other
denied_at : (head : Head) (act : Act) (lsn : ℕ) (t : WrittenTable) (e : Epochs) (v : View) → reads_the_log (op_of act) ≡ true → IsAt act lsn → decision (asks head act) t e v ≡ verdicts.Allowed → rows_allow t.rows (asked_in (asks head (act_at act lsn))) ≡ true → v.hard < lsn → decision (asks head (act_at act lsn)) t e v ≡ verdicts.Denied sections.C 1 v.hard
denied_at head act lsn t e v reads at allowed rows lt =
    let q = asks head (act_at act lsn) in
    let found = denied_by_the_first (order_of t) q t e v
    (λ h. both_ways (stands_against rules.AboveTheEnd q t e v) (meets_no_rule q t e v h rules.AboveTheEnd) (above_the_end head act lsn t e v true reads at (lt-ltb v.hard lsn lt))) in
    elim (or_the_end found.0 head act lsn t e v at allowed rows) [
      | inl passes ↦ absurd (both_ways (stands_against found.0 q t e v) passes found.1.stands)
      | inr is ↦ found.2 ∙ ap (λ (r : Rule). denial r (act_at act lsn) e v) is
    ]

-- ---- if the rows do not allow it

-- who asks, in which epoch and role, is as for the LSN that is allowed
none_of_a : (head : Head) (act : Act) (lsn : ℕ) (t : WrittenTable) (e : Epochs) (v : View) → IsAt act lsn → decision (asks head act) t e v ≡ verdicts.Allowed → NoneStands section_a (asks head (act_at act lsn)) t e v
none_of_a head act lsn t e v at allowed =
    let q = asks head act in
    let passes = λ (rule : Rule). stands_against rule (asks head (act_at act lsn)) t e v ≡ false in
    let meets = meets_no_rule q t e v allowed in
    let role : stands_against rules.RoleLacksOperation (asks head (act_at act lsn)) t e v ≡ false = rw (← at.alike.op) (meets rules.RoleLacksOperation) in
    All-cons passes rules.UnknownPrincipal (rules.OlderEpoch ∷ rules.NewerEpoch ∷ rules.OtherPrimary ∷ rules.RoleLacksOperation ∷ []) (meets rules.UnknownPrincipal)
    (All-cons passes rules.OlderEpoch (rules.NewerEpoch ∷ rules.OtherPrimary ∷ rules.RoleLacksOperation ∷ []) (meets rules.OlderEpoch)
    (All-cons passes rules.NewerEpoch (rules.OtherPrimary ∷ rules.RoleLacksOperation ∷ []) (meets rules.NewerEpoch)
    (All-cons passes rules.OtherPrimary (rules.RoleLacksOperation ∷ []) (meets rules.OtherPrimary)
    (All-cons passes rules.RoleLacksOperation [] role (All-nil passes)))))

-- so the rows deny it, or none of them matches
by_rows : (q : Query) (t : WrittenTable) (e : Epochs) (v : View) (found : Option (ℕ × Bool)) → first_match_from 1 t.rows (asked_in q) ≡ found → found_allows found ≡ false → (row : ℕ) × (first_denial (section_b (length t.rows) ++ section_c) q t e v ≡ verdicts.Denied sections.B row 0)
by_rows q t e v None is fails = (0, rows-none q t e v is)
by_rows q t e v (Some (number, true)) is fails = absurd cc
by_rows q t e v (Some (number, false)) is fails = (number, rows-deny q t e v number is)

ended_at : (head : Head) (act : Act) (lsn : ℕ) (t : WrittenTable) (e : Epochs) (v : View) → IsAt act lsn → decision (asks head act) t e v ≡ verdicts.Allowed → rows_allow t.rows (asked_in (asks head (act_at act lsn))) ≡ false → (row : ℕ) × (decision (asks head (act_at act lsn)) t e v ≡ verdicts.Denied sections.B row 0)
ended_at head act lsn t e v at allowed rows =
    let q = asks head (act_at act lsn) in
    let denied = by_rows q t e v (first_match_from 1 t.rows (asked_in q)) refl rows in
    (denied.0, passed_over section_a (section_b (length t.rows) ++ section_c) q t e v (none_of_a head act lsn t e v at allowed) ∙ denied.1)

pub requests_ask_at : RequestsAskAt
requests_ask_at q lsn = asks_at q.head q.act lsn

pub reach_the_end : ReadsReachTheEnd
reach_the_end q t e v reads allowed lsn =
    let at = read_at q.act lsn reads in
    let same = ap (rows_allow t.rows) (requests_ask_at q lsn) in
    record {
      within = λ rows. allowed_at q.head q.act lsn t e v reads at allowed (same ∙ rows);
      above = λ rows. denied_at q.head q.act lsn t e v reads at allowed (same ∙ rows);
      ended = λ rows. ended_at q.head q.act lsn t e v at allowed (same ∙ rows);
    }
