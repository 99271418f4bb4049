-- What is decided on a request, by what was found of the history.
use Rattle.std.proofs.Common.{◌≡◌, ℕ, ◌+◌, ◌<◌, ◌≤◌, true, List, length, refl, sym, ap, subst, ◌∙◌, arith}
use Rattle.std.specs.Prelude.{IfSome, nat_le, unwrap_or}
use Rattle.pl_block.specs.Block.{Content, is_open_to}
use Rattle.pl_block.specs.Bounds.{window}
use Rattle.pl_log.specs.State.{Place, LogState}
use Rattle.pl_log.specs.Window.{window_open_to, all_in_quorum}
use Rattle.pl_table.specs.Requests.Acts.{block_of}
use Rattle.pl_table.specs.Requests.Asking.{asked_in, asked_at}
use Rattle.pl_table.specs.Tables.FirstMatch.{rows_allow}
use Rattle.pl_table.specs.Requests.Ops.{same_op}
use Rattle.pl_table.specs.declared.requests.op.Op.TheVariants as ops
use Rattle.pl_table.specs.declared.requests.act.Act.{Act}
use Rattle.pl_table.specs.declared.requests.act.Act.TheVariants as acts
use Rattle.pl_table.specs.declared.tables.verdict.Verdict.{Verdict}
use Rattle.pl_table.specs.declared.tables.verdict.Verdict.TheVariants as verdicts
use Rattle.pl_table.specs.Requests.Request.{Query, op_of}
use Rattle.pl_table.specs.Tables.Table.{WrittenTable}
use Rattle.pl_table.specs.Tables.Zone.{copies_in, quorum_in}
use Rattle.pl_decide.specs.declared.view.Epochs.{Epochs}
use Rattle.pl_decide.specs.declared.view.View.{View}
use Rattle.pl_decide.specs.Asked.{reads_the_log}
use Rattle.pl_decide.specs.Laws.{ViewsDecideAlike}
use Rattle.pl_decide.specs.WrittenOrder.{decision}
use Rattle.pl_audit.specs.declared.audit.Entry.{Entry as AuditEntry}
use Rattle.pl_audit.specs.Audit.{last_table}
use Rattle.pl_core.specs.declared.state.ByTable.{ByTable}
use Rattle.pl_core.specs.declared.state.State.{State}
use Rattle.pl_core.specs.History.{Start, History}
use Rattle.pl_core.specs.Epoch.{epoch_of, table_of}
use Rattle.pl_core.specs.Log.{content_at, hard_of}
use Rattle.pl_core.specs.Verdict.{agrees, can_harden, epochs_of, view_of, verdict_of}
use Rattle.pl_core.specs.Representation.{history_of, HoldsLog, DbInvariant}
use Rattle.pl_core.proofs.Places.{says_of}
use Rattle.pl_core.proofs.Transition.{can_harden_by}
use Rattle.pl_core.proofs.Answering.{IsByTable}

-- what a view shows of a request at a state in which so many blocks are hardened
pub record Seen (state : State) (many : ℕ) (q : Query) (view : View) : Type 0 where
  pub hard : view.hard ≡ many
  pub copies : view.copies ≡ state.log.copies
  pub can_harden : q.head.epoch ≡ state.epochs.epoch → (lsn : ℕ) → q.act ≡ acts.Report lsn → view.can_harden ≡ all_in_quorum state.log lsn
  pub agrees : q.head.epoch ≡ state.epochs.epoch → IfSome (block_of q.act) (λ block. view.agrees ≡ window_open_to state.log block)

-- the log says of a block above its end what the history says
open_as : (h : History) (log : LogState) (block : Content) → HoldsLog h log → hard_of h < block.lsn → window_open_to log block ≡ is_open_to block (content_at h block.lsn)
open_as h log block holds over =
    let hard : length log.hardened ≡ hard_of h = ap length holds.hardened in
    ap (λ (p : Place). is_open_to block p.content) (says_of h log holds block.lsn (omega (arith, over, hard)))

agrees_by : (act : Act) (h : History) (log : LogState) (view : View) → HoldsLog h log → IfSome (block_of act) (λ block. view.agrees ≡ window_open_to log block)
    → IfSome (block_of act) (λ block. hard_of h < block.lsn → block.lsn ≤ hard_of h + window → view.agrees ≡ agrees act h)
agrees_by (acts.Write copy block) h log view holds is = λ over under. is ∙ open_as h log block holds over
agrees_by (acts.Offer block) h log view holds is = λ over under. is ∙ open_as h log block holds over
agrees_by act h log view holds is = tt

harden_by : (act : Act) (h : History) (log : LogState) (view : View) → HoldsLog h log → ((lsn : ℕ) → act ≡ acts.Report lsn → view.can_harden ≡ all_in_quorum log lsn) → same_op (op_of act) ops.Report ≡ true → view.can_harden ≡ can_harden act h
harden_by (acts.Report lsn) h log view holds is same = is lsn refl ∙ can_harden_by h log lsn holds
harden_by act h log view holds is same = absurd cc

-- so what is decided by it, and by the table that was found, is the verdict
pub verdict_is : ViewsDecideAlike → (start : Start) (state : State) (entries : List AuditEntry) (q : Query) (table : WrittenTable) (hard : ℕ) (view : View) (v : Verdict) → DbInvariant start state entries → table ≡ unwrap_or (last_table entries) start.table → hard ≡ length state.log.hardened
    → Seen state hard q view → v ≡ decision q table state.epochs view → v ≡ verdict_of q (history_of start state entries)
verdict_is alike start state entries q table hard view v sound table_is hard_is seen decided =
    let h = history_of start state entries in
    let present : epoch_of h ≡ state.epochs.epoch = ap (λ (e : Epochs). e.epoch) (sym sound.epochs) in
    decided
    ∙ ap (λ (t : WrittenTable). decision q t state.epochs view) (table_is ∙ sound.table)
    ∙ ap (λ (e : Epochs). decision q (table_of h) e view) sound.epochs
    ∙ alike q (table_of h) (epochs_of h) view (view_of q.act h) (λ now. record {
      hard = seen.hard ∙ hard_is ∙ ap length sound.log.hardened;
      copies = seen.copies ∙ sound.log.zone.0;
      agrees = agrees_by q.act h state.log view sound.log (seen.agrees (now ∙ present));
      can_harden = harden_by q.act h state.log view sound.log (seen.can_harden (now ∙ present));
    })

-- what that table says is what the table in force does
pub told_by : (h : History) (q : Query) (table : WrittenTable) (hard : ℕ) (v : Verdict) (by : ByTable) → table ≡ table_of h → hard ≡ hard_of h → by.reach ≤ hard
    → (v ≡ verdicts.Allowed → reads_the_log (op_of q.act) ≡ true → (lsn : ℕ) → lsn ≤ hard → rows_allow table.rows (asked_at (asked_in q) lsn) ≡ nat_le lsn by.reach)
    → (op_of q.act ≡ ops.Failover → (by.copies ≡ copies_in table.zone) × (by.quorum ≡ quorum_in table.zone)) → IsByTable h q v by
told_by h q table hard v by table_is hard_is within rows zone = record {
  zone = λ fails_over. let both = zone fails_over in record { copies = both.0 ∙ ap (λ (t : WrittenTable). copies_in t.zone) table_is; quorum = both.1 ∙ ap (λ (t : WrittenTable). quorum_in t.zone) table_is };
  within = subst (λ (n : ℕ). by.reach ≤ n) hard_is within;
  rows = λ allowed reads lsn low. sym (ap (λ (t : WrittenTable). rows_allow t.rows (asked_at (asked_in q) lsn)) table_is) ∙ rows allowed reads lsn (subst (λ (n : ℕ). lsn ≤ n) (sym hard_is) low);
}
