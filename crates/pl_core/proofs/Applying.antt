-- How far partitions are applied, and the state of pages.
use Rattle.std.proofs.Common.{◌≡◌, ℕ, ◌+◌, ◌≤◌, Bool, true, false, ◌==◌, cond, List, [], ◌∷◌, length, sym, ap, subst, ◌∙◌, arith}
use Rattle.std.specs.Prelude.{min, unwrap_or}
use Rattle.pl_block.specs.Block.{Content}
use Rattle.pl_pages.specs.State.{PagesState, FitsLog, applied_at}
use Rattle.pl_pages.specs.Laws.{FitsLongerLogs}
use Rattle.pl_core.specs.declared.state.State.{State}
use Rattle.pl_audit.specs.declared.audit.Entry.{Entry as AuditEntry}
use Rattle.pl_core.specs.History.{Effect, advanced, Entry, Start, History, grown}
use Rattle.pl_core.specs.Log.{hardened_log, hard_of}
use Rattle.pl_core.specs.Applied.{applied_by, applied_after, applied_of}
use Rattle.pl_core.specs.Representation.{history_of, HoldsLog, HoldsPages, DbInvariant, PartsAgree}
use Rattle.pl_core.specs.Laws.{AppliedLsnsOnlyRise}
use Rattle.pl_core.specs.Transition.{PagesFollow, with_unseen, applied_then}
use Rattle.pl_decide.specs.Agreement.{AgreesWith}
use Rattle.pl_decide.specs.Keys.{CachedVerdict}
use Rattle.pl_audit.specs.Audit.{AuditList, last_table}
use Rattle.pl_table.specs.Tables.Table.{WrittenTable}
use Rattle.pl_core.specs.Epoch.{table_of}
use Rattle.pl_core.specs.Verdict.{epochs_of}
use Rattle.pl_core.specs.Legal.{IsLegal}
use Rattle.pl_core.proofs.Moved.{entries-moved, holds_moved}
use Rattle.pl_core.proofs.AboveTheWindow.{hard_rises}
use Rattle.pl_core.proofs.Staying.{only_grow}

-- ---- an applied LSN only rises, and is within the log

-- one of the two, by a test, is as both are
either : (P : ℕ → Type 0) (b : Bool) (x y : ℕ) → P x → P y → P (cond b x y)
either P true x y is other = is
either P false x y is other = other

within_by : (f : Effect) (hard partition before : ℕ) → before ≤ hard → applied_by f hard partition before ≤ hard
within_by (advanced other steps) hard partition before le = either (λ n. n ≤ hard) (other == partition) (min hard (before + steps)) before (omega arith) le
within_by f hard partition before le = le

rises_by : (f : Effect) (hard partition before : ℕ) → before ≤ hard → before ≤ applied_by f hard partition before
rises_by (advanced other steps) hard partition before le = either (λ n. before ≤ n) (other == partition) (min hard (before + steps)) before (omega (arith, le)) (omega arith)
rises_by f hard partition before le = omega arith

pub within_log : (start : Start) (es : List Entry) (partition : ℕ) → applied_after start es partition ≤ hard_of (record { start = start; entries = es })
within_log start [] partition = omega arith
within_log start (e ∷ es) partition =
    let h : History = record { start = start; entries = es } in
    let before = within_by e.effect (hard_of h) partition (applied_after start es partition) (within_log start es partition) in
    let rises = hard_rises h e in
    omega (arith, before, rises)

pub only_rise : AppliedLsnsOnlyRise
only_rise h e partition =
    let within = within_log h.start h.entries partition in
    record { within = within; rises = rises_by e.effect (hard_of h) partition (applied_of h partition) within }

-- ---- the state of pages

-- the state says the same as the history
applied-then : (f : Effect) (h : History) (state : State) (partition : ℕ) → length state.log.hardened ≡ hard_of h → applied_at state.pages partition ≡ applied_of h partition
    → applied_then f state partition ≡ applied_by f (hard_of h) partition (applied_of h partition)
applied-then f h state partition hard applied =
    ap (λ (n : ℕ). applied_by f n partition (applied_at state.pages partition)) hard ∙ ap (applied_by f (hard_of h) partition) applied

-- so it does after a request
pub holds_pages : FitsLongerLogs → (h : History) (e : Entry) (state : State) (pages : PagesState) → HoldsLog h state.log → HoldsPages h state.pages → PagesFollow state (λ p. applied_then e.effect state p) pages → HoldsPages (grown h e) pages
holds_pages law h e state pages log held follow =
    let more = (only_grow h e).log in
    let here : FitsLog pages (hardened_log h) = subst (λ (l : List Content). FitsLog pages l) log.hardened follow.fits in
    record {
      fits = subst (λ (l : List Content). FitsLog pages l) (sym more.1) (law pages (hardened_log h) more.0 here);
      applied = λ p. follow.applied_are p ∙ applied-then e.effect h state p (ap length log.hardened) (held.applied p);
      chunks = follow.chunks ∙ held.chunks;
    }

-- the history is the same wherever the blocks lie, and whatever the state of pages is
pub history-moved : (start : Start) (state : State) (entries : List AuditEntry) (pages : PagesState) (in_broker : ℕ) → history_of start state entries ≡ history_of start (with_unseen state pages in_broker) entries
history-moved start state entries pages in_broker = ap (λ (xs : List Entry). record { start = start; entries = xs }) (sym (entries-moved state.log in_broker entries))

-- and after one that had no memory
pub still_represents : (start : Start) (state : State) (entries : List AuditEntry) (pages : PagesState) (in_broker : ℕ) → DbInvariant start state entries → PagesFollow state (λ p. applied_at state.pages p) pages → DbInvariant start (with_unseen state pages in_broker) entries
still_represents start state entries pages in_broker sound follow =
    let same = history-moved start state entries pages in_broker in
    record {
      legal = subst IsLegal same sound.legal;
      log = holds_moved _ state.log in_broker (subst (λ (h : History). HoldsLog h state.log) same sound.log);
      pages = subst (λ (h : History). HoldsPages h pages) same (record {
        fits = subst (λ (l : List Content). FitsLog pages l) sound.log.hardened follow.fits;
        applied = λ p. follow.applied_are p ∙ sound.pages.applied p;
        chunks = follow.chunks ∙ sound.pages.chunks;
      });
      table = sound.table ∙ ap table_of same;
      epochs = sound.epochs ∙ ap epochs_of same;
    }

-- with a place reserved in the audit list
pub still_sound : (start : Start) (state after : State) (before audit : AuditList) (verdicts : List CachedVerdict) → PartsAgree start state before verdicts → after ≡ with_unseen state after.pages after.log.in_broker → PagesFollow state (λ p. applied_at state.pages p) after.pages
    → audit ≡ record before { reserved = true } → PartsAgree start after audit verdicts
still_sound start state after before audit verdicts sound after-is follow audit-is =
    let same = history-moved start state before.entries after.pages after.log.in_broker in
    let here : PartsAgree start (with_unseen state after.pages after.log.in_broker) (record before { reserved = true }) verdicts = record {
      history = still_represents start state before.entries after.pages after.log.in_broker sound.history follow;
      limit = sound.limit;
      agrees = subst (λ (h : History). AgreesWith verdicts (table_of h)) same sound.agrees;
    } in
    subst (λ (a : AuditList). PartsAgree start after a verdicts) (sym audit-is) (subst (λ (k : State). PartsAgree start k (record before { reserved = true }) verdicts) (sym after-is) here)

-- the parts agree with other verdicts that are those of the table in force
pub still_agree : (start : Start) (state : State) (audit : AuditList) (was now : List CachedVerdict) (table : WrittenTable) → PartsAgree start state audit was → table ≡ unwrap_or (last_table audit.entries) start.table → AgreesWith now table → PartsAgree start state audit now
still_agree start state audit was now table sound table_is agrees = record {
  history = sound.history;
  limit = sound.limit;
  agrees = subst (AgreesWith now) (table_is ∙ sound.history.table) agrees;
}
