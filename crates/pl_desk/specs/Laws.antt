-- What a pass that has seen a history may rely on in all its later calls.
use Rattle.std.specs.Prelude.{◌≡◌, ℕ, ◌<◌, ◌≤◌, ◌⊎◌, List, ◌++◌, Contains}
use Rattle.pl_table.specs.declared.tables.verdict.Section.TheVariants as sections
use Rattle.pl_table.specs.Requests.Request.{Query}
use Rattle.pl_core.specs.declared.reply.Reply.{Reply}
use Rattle.pl_core.specs.declared.reply.Reply.TheVariants as replies
use Rattle.pl_core.specs.History.{Entry, History, set}
use Rattle.pl_core.specs.Epoch.{epoch_of, table_of}
use Rattle.pl_desk.specs.Growth.{GoesOn}
use Rattle.pl_desk.specs.Passes.{Knowledge, IsSamePass, HadTurn, WasCalled, HasMet}

-- the history is the beginning of what the pass has seen
abbrev pub HasSeen : Knowledge → History → Type 0
HasSeen p h = GoesOn p.terms.seats h p.seen

-- what a pass has seen it has seen after each call
abbrev pub CallsForgetNothing : Type 0
CallsForgetNothing = (p q : Knowledge) (request : Query) (reply : Reply) (h : History)
    → IsSamePass p q → WasCalled p request reply q → HasSeen p h → HasSeen q h

-- and after each meeting, with what the other pass had seen
abbrev pub MeetingsForgetNothing : Type 0
MeetingsForgetNothing = (p other q : Knowledge) (h : History)
    → other.terms ≡ p.terms → IsSamePass p q → HasMet p other q
    → (HasSeen p h ⊎ HasSeen other h) → HasSeen q h

-- of two passes that meet, one had seen a beginning of what the other had seen
abbrev pub PassesThatMeetSawOneHistory : Type 0
PassesThatMeetSawOneHistory = (p other q : Knowledge) → HasMet p other q
    → GoesOn p.terms.seats p.seen other.seen ⊎ GoesOn p.terms.seats other.seen p.seen

-- the reply is a denial for an older epoch than one that is at least this one; or the request was not
-- decided: turns, places of the audit list or memory were missing, or the principal is not known
abbrev pub IsFenced : ℕ → Reply → Type 0
IsFenced epoch r = ((now : ℕ) × (epoch ≤ now) × (r ≡ replies.Denied sections.A 2 now))
    ⊎ ((r ≡ replies.Denied sections.A 1 0)
    ⊎ ((r ≡ replies.Spent) ⊎ ((r ≡ replies.AuditFull) ⊎ (r ≡ replies.NoMemory))))

-- a pass that has seen an epoch begin gets no request of an older one served
abbrev pub OlderEpochsStayFenced : Type 0
OlderEpochsStayFenced = (p q : Knowledge) (request : Query) (reply : Reply) (h : History)
    → HasSeen p h → request.head.epoch < epoch_of h → WasCalled p request reply q
    → IsFenced (epoch_of h) reply

-- the table in force is that of the earlier history, or one that an entry since then has set
pub record IsTableSince (earlier later : History) : Type 0 where
  pub more : List Entry
  pub entries : later.entries ≡ more ++ earlier.entries
  pub table : (table_of later ≡ table_of earlier)
      ⊎ ((e : Entry) × Contains more e × (e.effect ≡ set (table_of later)))

-- a pass that has seen a table in force has each request decided by that table or a later one
abbrev pub TablesOnlyGetNewer : Type 0
TablesOnlyGetNewer = (p q : Knowledge) (request : Query) (reply : Reply) (h : History)
    → HasSeen p h → (turn : HadTurn p request reply q) → IsTableSince h turn.found
