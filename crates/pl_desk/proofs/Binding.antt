-- What a pass has seen binds its later calls.
use Rattle.std.proofs.Common.{◌≡◌, ◌≢◌, ℕ, suc, ◌<◌, ◌≤◌, Bool, true, false, List, [], ◌∷◌, ◌++◌, length, ◌⊎◌, refl, sym, ap, subst, ◌∙◌, inl, inr, arith, Contains}
use Rattle.std.proofs.lemmas.Bool.{cases_Bool, cases_lt}
use Rattle.pl_table.specs.declared.tables.verdict.Section.TheVariants as sections
use Rattle.pl_table.specs.declared.tables.verdict.Verdict.{Verdict}
use Rattle.pl_table.specs.declared.tables.verdict.Verdict.TheVariants as verdicts
use Rattle.pl_table.specs.Requests.Request.{Query}
use Rattle.pl_table.specs.Tables.Table.{WrittenTable}
use Rattle.pl_core.specs.declared.reply.Reply.{Reply}
use Rattle.pl_core.specs.declared.reply.Reply.TheVariants as replies
use Rattle.pl_core.specs.History.{Effect, set, Entry, Start, History}
use Rattle.pl_core.specs.Epoch.{begins_epoch, epoch_after, epoch_of, table_by, table_after, table_of}
use Rattle.pl_core.specs.Verdict.{verdict_of}
use Rattle.pl_core.specs.Answer.{AnswersBy, UnlessNoMemory, MayReply}
use Rattle.pl_core.specs.Laws.{OlderEpochsAreFenced}
use Rattle.pl_desk.specs.declared.rule.Terms.{Terms}
use Rattle.pl_desk.specs.Growth.{GoesOn}
use Rattle.pl_desk.specs.Passes.{Knowledge, WasCalled}
use Rattle.pl_desk.specs.Laws.{CallsForgetNothing, MeetingsForgetNothing, IsFenced, OlderEpochsStayFenced, PassesThatMeetSawOneHistory, IsTableSince, TablesOnlyGetNewer}
use Rattle.pl_desk.proofs.Histories.{goes_on-refl, goes_on-shorter, goes_on-trans}

-- ---- what was seen stays seen

-- a reply is Spent or another
spent-cases : (r : Reply) → (r ≡ replies.Spent) ⊎ (r ≢ replies.Spent)
spent-cases replies.Spent = inl refl
spent-cases r = inr (λ e. cc)

-- the history that a pass has seen after a call goes on from what it had seen
call-goes_on : (p q : Knowledge) (request : Query) (reply : Reply) → WasCalled p request reply q → GoesOn p.terms.seats p.seen q.seen
call-goes_on p q request reply called =
    elim (spent-cases reply) [
      | inl is ↦ subst (GoesOn p.terms.seats p.seen) (sym (called.spent is).same) (goes_on-refl p.terms.seats p.seen)
      | inr other ↦ (called.turn other).onward
    ]

pub calls_forget_nothing : CallsForgetNothing
calls_forget_nothing p q request reply h same called seen =
    let on = goes_on-trans p.terms.seats h p.seen q.seen seen (call-goes_on p q request reply called) in
    subst (λ (t : Terms). GoesOn t.seats h q.seen) (sym same.terms) on

pub meetings_forget_nothing : MeetingsForgetNothing
meetings_forget_nothing p other q h terms same met (inl seen) =
    subst (λ (t : Terms). GoesOn t.seats h q.seen) (sym same.terms) (goes_on-trans p.terms.seats h p.seen q.seen seen met.left)
meetings_forget_nothing p other q h terms same met (inr seen) =
    let seen' : GoesOn p.terms.seats h other.seen = subst (λ (t : Terms). GoesOn t.seats h other.seen) terms seen in
    subst (λ (t : Terms). GoesOn t.seats h q.seen) (sym same.terms) (goes_on-trans p.terms.seats h other.seen q.seen seen' met.right)

-- both are beginnings of what the first has seen then, so the shorter is a beginning of the longer
pub passes_that_meet_saw_one_history : PassesThatMeetSawOneHistory
passes_that_meet_saw_one_history p other q met =
    elim (cases_lt (length p.seen.entries) (length other.seen.entries)) [
      | inl less ↦ inl (goes_on-shorter p.terms.seats p.seen other.seen q.seen met.left met.right (omega (arith, less)))
      | inr more ↦ inr (goes_on-shorter p.terms.seats other.seen p.seen q.seen met.right met.left more)
    ]

-- ---- older epochs

epoch-grows : (more es : List Entry) → epoch_after es ≤ epoch_after (more ++ es)
epoch-grows [] es = omega arith
epoch-grows (e ∷ more) es =
    let rest = epoch-grows more es in
    elim (cases_Bool (begins_epoch e.effect)) [
      | inl begins ↦ rw begins (omega (arith, rest))
      | inr stays ↦ rw stays rest
    ]

goes_on-epoch : (n : ℕ) (h g : History) → GoesOn n h g → epoch_of h ≤ epoch_of g
goes_on-epoch n h g on = subst (λ (es : List Entry). epoch_of h ≤ epoch_after es) (sym on.entries) (epoch-grows on.more h.entries)

unless-cases : (r : Reply) (P : Type 0) → UnlessNoMemory r P → (r ≡ replies.NoMemory) ⊎ P
unless-cases replies.NoMemory P p = inl refl
unless-cases r P p = inr p

-- one of two, by a test that is not named
either-way : (b : Bool) (P Q : Type 0) → (b ≡ false → P) → (b ≡ true → Q) → P ⊎ Q
either-way true P Q when-false when-true = inr (when-true refl)
either-way false P Q when-false when-true = inl (when-false refl)

-- the reply of a step to a request of an older epoch
step-fenced : OlderEpochsAreFenced → (request : Query) (found : History) (reply : Reply) (epoch : ℕ) → MayReply request found reply → request.head.epoch < epoch → epoch ≤ epoch_of found → IsFenced epoch reply
step-fenced older request found reply epoch may less le =
    elim (cases_lt (length found.entries) found.start.limits.audit) [
      | inr full ↦ inr (inr (inr (inl (may.audit_full full))))
      | inl room ↦ elim (either-way _ (reply ≡ replies.Denied sections.A 1 0)
          ((reply ≡ replies.NoMemory) ⊎ ((verdict_of request found ≡ verdicts.Denied sections.A 2 (epoch_of found)) × AnswersBy (verdict_of request found) request found reply))
          (may.unknown room) (λ known. elim (unless-cases reply (AnswersBy (verdict_of request found) request found reply) (may.answer room known)) [
            | inl none ↦ inl none
            | inr answer ↦ inr (older found request known (omega (arith, less, le)), answer)
          ])) [
            | inl unknown ↦ inr (inl unknown)
            | inr known ↦ elim known [
              | inl none ↦ inr (inr (inr (inr none)))
              | inr denied ↦ inl (epoch_of found, le, subst (λ (v : Verdict). AnswersBy v request found reply) denied.0 denied.1)
            ]
          ]
    ]

pub older_epochs_stay_fenced : OlderEpochsAreFenced → OlderEpochsStayFenced
older_epochs_stay_fenced older p q request reply h seen less called =
    elim (spent-cases reply) [
      | inl is ↦ inr (inr (inl is))
      | inr other ↦
          let turn = called.turn other in
          let on = goes_on-trans p.terms.seats h p.seen turn.found seen turn.ahead.onward in
          step-fenced older request turn.found reply (epoch_of h) turn.step.answer less (goes_on-epoch p.terms.seats h turn.found on)
    ]

-- ---- older tables

-- an effect sets the table that is in force after it, or leaves the one before
table-cases : (e : Effect) (before : WrittenTable) → (table_by e before ≡ before) ⊎ (e ≡ set (table_by e before))
table-cases (set table) before = inr refl
table-cases e before = inl refl

-- the table after more entries is the one before them, or one of them has set it
table-since : (start : Start) (more es : List Entry) → (table_after start (more ++ es) ≡ table_after start es)
    ⊎ ((e : Entry) × Contains more e × (e.effect ≡ set (table_after start (more ++ es))))
table-since start [] es = inl refl
table-since start (e ∷ more) es =
    elim (table-cases e.effect (table_after start (more ++ es))) [
      | inr sets ↦ inr (e, (0, omega arith, refl), sets)
      | inl same ↦ elim (table-since start more es) [
        | inl none ↦ inl (same ∙ none)
        | inr one ↦ inr (one.0, (suc one.1.0, (let within = one.1.1 in omega (arith, within)), one.1.2), one.2 ∙ ap set (sym same))
      ]
    ]

goes_on-table : (n : ℕ) (h g : History) → GoesOn n h g → IsTableSince h g
goes_on-table n h g on =
    let now : table_of g ≡ table_after h.start (on.more ++ h.entries) = λ i. table_after (on.start i) (on.entries i) in
    record {
      more = on.more;
      entries = on.entries;
      table = elim (table-since h.start on.more h.entries) [
        | inl same ↦ inl (now ∙ same)
        | inr one ↦ inr (one.0, one.1, one.2 ∙ ap set (sym now))
      ];
    }

pub tables_only_get_newer : TablesOnlyGetNewer
tables_only_get_newer p q request reply h seen turn =
    goes_on-table p.terms.seats h turn.found (goes_on-trans p.terms.seats h p.seen turn.found seen turn.ahead.onward)
