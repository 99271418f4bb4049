-- What follows from the written order: statements, each the clause of a law.
use Rattle.std.specs.Prelude.{◌≡◌, ◌≢◌, ◌↔◌, ℕ, ◌+◌, ◌<◌, ◌≤◌, Bool, false, true, ◌==◌, List, IfSome, IsSome, IsOk}
use Rattle.pl_block.specs.Block.{Content}
use Rattle.pl_block.specs.Bounds.{window}
use Rattle.pl_table.specs.declared.requests.op.Op.TheVariants as ops
use Rattle.pl_table.specs.declared.requests.act.Act.{Act}
use Rattle.pl_table.specs.declared.requests.act.Act.TheVariants as acts
use Rattle.pl_table.specs.declared.tables.verdict.Section.{Section}
use Rattle.pl_table.specs.declared.tables.verdict.Section.TheVariants as sections
use Rattle.pl_table.specs.declared.tables.verdict.Verdict.TheVariants as verdicts
use Rattle.pl_table.specs.Requests.Ops.{same_op}
use Rattle.pl_table.specs.Requests.Request.{Query, op_of}
use Rattle.pl_table.specs.Tables.Table.{WrittenTable, token_of}
use Rattle.pl_table.specs.Tables.TableText.{table_reading}
use Rattle.pl_decide.specs.declared.rule.Rule.{Rule}
use Rattle.pl_decide.specs.declared.view.Epochs.{Epochs}
use Rattle.pl_decide.specs.declared.view.View.{View}
use Rattle.pl_table.specs.Requests.Acts.{block_of}
use Rattle.pl_table.specs.Requests.Asking.{Asked, asked_in, asked_at}
use Rattle.pl_decide.specs.Asked.{is_known, reads_the_log, last_epoch, request_at}
use Rattle.pl_table.specs.declared.tables.row.Row.{Row}
use Rattle.pl_table.specs.Tables.Row.{is_about}
use Rattle.pl_table.specs.Tables.FirstMatch.{first_match_from, rows_allow}
use Rattle.pl_decide.specs.declared.key.VerdictKey.{VerdictKey}
use Rattle.pl_decide.specs.Keys.{IsKeyOf}
use Rattle.pl_decide.specs.Rules.{stands_against}
use Rattle.pl_decide.specs.WrittenOrder.{first_denial, decision, NoneStands, IsFirstDenial}

-- the same rows are about all that is asked with one key
abbrev pub OneKeyIsMatchedAlike : Type 0
OneKeyIsMatchedAlike = (key : VerdictKey) (a b : Asked) → IsKeyOf key a → IsKeyOf key b
    → (row : Row) → is_about row a ≡ is_about row b

-- so, if that names one LSN or none, the first row that matches is the same
abbrev pub OneKeyOneVerdict : Type 0
OneKeyOneVerdict = (key : VerdictKey) (a b : Asked) → IsKeyOf key a → IsKeyOf key b
    → a.lsn ≡ b.lsn
    → (rows : List Row) → first_match_from 1 rows a ≡ first_match_from 1 rows b

-- a request is allowed exactly if no rule of the order denies it, whatever the order
abbrev pub AllowedExactly : Type 0
AllowedExactly = (order : List Rule) (q : Query) (t : WrittenTable) (e : Epochs) (v : View)
    → (first_denial order q t e v ≡ verdicts.Allowed) ↔ NoneStands order q t e v

-- and if it is not, the verdict is the denial of the first rule that denies it
abbrev pub DeniedByTheFirst : Type 0
DeniedByTheFirst = (order : List Rule) (q : Query) (t : WrittenTable) (e : Epochs) (v : View)
    → first_denial order q t e v ≢ verdicts.Allowed
    → IsFirstDenial (first_denial order q t e v) order q t e v

-- none of all rules denies an allowed request
abbrev pub AllowedMeetsNoRule : Type 0
AllowedMeetsNoRule = (q : Query) (t : WrittenTable) (e : Epochs) (v : View)
    → decision q t e v ≡ verdicts.Allowed → (rule : Rule) → stands_against rule q t e v ≡ false

-- an allowed write: its block is in the window and agrees, and its copy is there
pub record MayWrite (to : ℕ) (block : Content) (v : View) : Type 0 where
  pub above : v.hard < block.lsn
  pub within : block.lsn ≤ v.hard + window
  pub agrees : v.agrees ≡ true
  pub copy : to < v.copies

-- an allowed offer: its block is in the window and agrees
pub record MayOffer (block : Content) (v : View) : Type 0 where
  pub above : v.hard < block.lsn
  pub within : block.lsn ≤ v.hard + window
  pub agrees : v.agrees ≡ true

-- an allowed failover: the table lists the primary, and another epoch is left
pub record MayFailOver (primary : ℕ) (t : WrittenTable) (e : Epochs) : Type 0 where
  pub listed : IsSome (token_of primary t.principals)
  pub not_last : e.epoch ≢ last_epoch

-- what section C asks of an act
abbrev pub MayBeServed : Act → WrittenTable → Epochs → View → Type 0
MayBeServed (acts.Write copy block) t e v = MayWrite copy block v
MayBeServed (acts.Offer block) t e v = MayOffer block v
MayBeServed (acts.Report lsn) t e v = v.can_harden ≡ true
MayBeServed (acts.Get page lsn exact) t e v = lsn ≤ v.hard
MayBeServed (acts.Pull lo hi lsn max) t e v = lsn ≤ v.hard
MayBeServed (acts.Advance partition steps) t e v = Unit {0}
MayBeServed acts.Status t e v = Unit {0}
MayBeServed (acts.Failover primary) t e v = MayFailOver primary t e
MayBeServed (acts.SetTable text) t e v = IsOk (table_reading text)
MayBeServed (acts.Audit first max) t e v = Unit {0}
MayBeServed acts.Tidy t e v = Unit {0}

-- an allowed request is of a known principal and of the epoch, and may be served
pub record IsServable (q : Query) (t : WrittenTable) (e : Epochs) (v : View) : Type 0 where
  pub known : is_known t q.head ≡ true
  pub epoch : q.head.epoch ≡ e.epoch
  pub act : MayBeServed q.act t e v

-- so is each allowed request
abbrev pub AllowedMayBeServed : Type 0
AllowedMayBeServed = (q : Query) (t : WrittenTable) (e : Epochs) (v : View)
    → decision q t e v ≡ verdicts.Allowed → IsServable q t e v

-- section and number are those of an unknown principal
abbrev pub is_unknown : Section → ℕ → Bool
is_unknown sections.A row = row == 1
is_unknown sections.B row = false
is_unknown sections.C row = false

-- an unknown principal is denied as that
abbrev pub UnknownIsDenied : Type 0
UnknownIsDenied = (q : Query) (t : WrittenTable) (e : Epochs) (v : View)
    → is_known t q.head ≡ false → decision q t e v ≡ verdicts.Denied sections.A 1 0

-- and a known one is not
abbrev pub KnownIsNotUnknown : Type 0
KnownIsNotUnknown = (q : Query) (t : WrittenTable) (e : Epochs) (v : View)
    → is_known t q.head ≡ true → (section : Section) (row value : ℕ)
    → decision q t e v ≡ verdicts.Denied section row value → is_unknown section row ≡ false

-- a known principal's request of an older epoch is denied, whatever for, with the epoch
abbrev pub OlderEpochIsDenied : Type 0
OlderEpochIsDenied = (q : Query) (t : WrittenTable) (e : Epochs) (v : View)
    → is_known t q.head ≡ true → q.head.epoch < e.epoch
    → decision q t e v ≡ verdicts.Denied sections.A 2 e.epoch

-- The views agree on what the rules look at for an act. Whether a block agrees matters in the
-- window alone.
pub record LooksAlike (act : Act) (v w : View) : Type 0 where
  pub hard : v.hard ≡ w.hard
  pub copies : v.copies ≡ w.copies
  pub agrees : IfSome (block_of act) (λ block. w.hard < block.lsn → block.lsn ≤ w.hard + window
      → v.agrees ≡ w.agrees)
  pub can_harden : same_op (op_of act) ops.Report ≡ true → v.can_harden ≡ w.can_harden

-- such views decide alike, and for a request of another epoch all views do
abbrev pub ViewsDecideAlike : Type 0
ViewsDecideAlike = (q : Query) (t : WrittenTable) (e : Epochs) (v w : View)
    → (q.head.epoch ≡ e.epoch → LooksAlike q.act v w) → decision q t e v ≡ decision q t e w

-- a request at another LSN asks the same there
abbrev pub RequestsAskAt : Type 0
RequestsAskAt = (q : Query) (lsn : ℕ) → asked_in (request_at q lsn) ≡ asked_at (asked_in q) lsn

-- the rows of the table allow each allowed request
abbrev pub RowsAllowTheAllowed : Type 0
RowsAllowTheAllowed = (q : Query) (t : WrittenTable) (e : Epochs) (v : View)
    → decision q t e v ≡ verdicts.Allowed → rows_allow t.rows (asked_in q) ≡ true

-- a pull or a get at an LSN: if the rows allow it, it is allowed up to the hardened end and denied above
-- it; if they do not, one of them denies it, or none matches
pub record ReadsTo (q : Query) (t : WrittenTable) (e : Epochs) (v : View) (lsn : ℕ) : Type 0 where
  pub within : rows_allow t.rows (asked_at (asked_in q) lsn) ≡ true → lsn ≤ v.hard
      → decision (request_at q lsn) t e v ≡ verdicts.Allowed
  pub above : rows_allow t.rows (asked_at (asked_in q) lsn) ≡ true → v.hard < lsn
      → decision (request_at q lsn) t e v ≡ verdicts.Denied sections.C 1 v.hard
  pub ended : rows_allow t.rows (asked_at (asked_in q) lsn) ≡ false
      → (row : ℕ) × (decision (request_at q lsn) t e v ≡ verdicts.Denied sections.B row 0)

-- so is each that is allowed at one LSN
abbrev pub ReadsReachTheEnd : Type 0
ReadsReachTheEnd = (q : Query) (t : WrittenTable) (e : Epochs) (v : View)
    → reads_the_log (op_of q.act) ≡ true → decision q t e v ≡ verdicts.Allowed
    → (lsn : ℕ) → ReadsTo q t e v lsn
