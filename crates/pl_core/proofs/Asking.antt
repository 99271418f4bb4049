-- How far a pull or a get goes.
use Rattle.std.proofs.Common.{◌≡◌, ℕ, ◌<◌, ◌≤◌, Bool, true, false, Option, None, Some, sym, ◌∙◌, inl, inr, arith}
use Rattle.std.specs.Prelude.{IfSome}
use Rattle.std.proofs.lemmas.Bool.{cases_Bool, cases_lt, le-leb, leb-true, lt-leb}
use Rattle.pl_table.specs.declared.requests.head.Head.{Head}
use Rattle.pl_table.specs.declared.requests.act.Act.{Act}
use Rattle.pl_table.specs.declared.requests.act.Act.TheVariants as acts
use Rattle.pl_table.specs.declared.tables.verdict.Section.{Section}
use Rattle.pl_table.specs.declared.tables.verdict.Section.TheVariants as sections
use Rattle.pl_table.specs.declared.tables.verdict.Verdict.{Verdict}
use Rattle.pl_table.specs.declared.tables.verdict.Verdict.TheVariants as verdicts
use Rattle.pl_table.specs.Requests.Acts.{number_of}
use Rattle.pl_table.specs.Requests.Asking.{asked_in, asked_at}
use Rattle.pl_table.specs.Tables.FirstMatch.{rows_allow}
use Rattle.pl_decide.specs.Asked.{reads_the_log, request_at}
use Rattle.pl_table.specs.Requests.Request.{Query, op_of}
use Rattle.pl_core.specs.History.{History}
use Rattle.pl_core.specs.Epoch.{table_of}
use Rattle.pl_core.specs.Log.{hard_of}
use Rattle.pl_core.specs.Verdict.{epochs_of, view_of, verdict_of}
use Rattle.pl_core.specs.Reach.{IsAllowedTo}
use Rattle.pl_core.specs.Laws.{RowsAllowTo, ReadsReachAsRowsAllow, ReachesAreHardened, ReadsAboveAreDenied}
use Rattle.pl_table.specs.Laws.{LowerLsnsAreAllowed}
use Rattle.pl_core.specs.Transition.{OrderLaws}

-- the rows of the table in force allow the request at an LSN
abbrev pub allowed_at : History → Query → ℕ → Bool
allowed_at h q n = rows_allow (table_of h).rows (asked_at (asked_in q) n)

-- what is said of it at another LSN, and at its own
record Asked (h : History) (q : Query) (n : ℕ) : Type 0 where
  within : allowed_at h q n ≡ true → n ≤ hard_of h → verdict_of (request_at q n) h ≡ verdicts.Allowed
  above : allowed_at h q n ≡ true → hard_of h < n → verdict_of (request_at q n) h ≡ verdicts.Denied sections.C 1 (hard_of h)
  ended : allowed_at h q n ≡ false → (row : ℕ) × (verdict_of (request_at q n) h ≡ verdicts.Denied sections.B row 0)
  own : IfSome (number_of q.act) (λ own. (own ≤ hard_of h) × (allowed_at h q own ≡ true))

asked_of : (head : Head) (act : Act) (h : History) (n : ℕ) → OrderLaws → reads_the_log (op_of act) ≡ true → verdict_of (record { head = head; act = act }) h ≡ verdicts.Allowed → Asked h (record { head = head; act = act }) n
asked_of head (acts.Get page lsn exact) h n order reads allowed =
    let q : Query = record { head = head; act = acts.Get page lsn exact } in
    let to = order.reads q (table_of h) (epochs_of h) (view_of q.act h) reads allowed n in
    record {
      within = to.within;
      above = to.above;
      ended = to.ended;
      own = ((order.served q (table_of h) (epochs_of h) (view_of q.act h) allowed).act, order.rows q (table_of h) (epochs_of h) (view_of q.act h) allowed);
    }
asked_of head (acts.Pull lo hi lsn max) h n order reads allowed =
    let q : Query = record { head = head; act = acts.Pull lo hi lsn max } in
    let to = order.reads q (table_of h) (epochs_of h) (view_of q.act h) reads allowed n in
    record {
      within = to.within;
      above = to.above;
      ended = to.ended;
      own = ((order.served q (table_of h) (epochs_of h) (view_of q.act h) allowed).act, order.rows q (table_of h) (epochs_of h) (view_of q.act h) allowed);
    }
asked_of head act h n order reads allowed = absurd cc

not_both : (v : Verdict) (s : Section) (row value : ℕ) → v ≡ verdicts.Allowed → v ≡ verdicts.Denied s row value → ⊥
not_both v s row value e f = let clash : verdicts.Allowed ≡ verdicts.Denied s row value = sym e ∙ f in cc

-- if it is allowed, the LSN is a hardened one, and the rows allow it
record IsFree (h : History) (q : Query) (n : ℕ) : Type 0 where
  within : n ≤ hard_of h
  rows : allowed_at h q n ≡ true

free_at : OrderLaws → (h : History) (q : Query) (n : ℕ) → reads_the_log (op_of q.act) ≡ true → verdict_of q h ≡ verdicts.Allowed → verdict_of (request_at q n) h ≡ verdicts.Allowed → IsFree h q n
free_at order h q n reads allowed now =
    let asked = asked_of q.head q.act h n order reads allowed in
    elim (cases_Bool (allowed_at h q n)) [
      | inl rows ↦ elim (cases_lt (hard_of h) n) [
        | inl above ↦ absurd (not_both (verdict_of (request_at q n) h) sections.C 1 (hard_of h) now (asked.above rows above))
        | inr within ↦ record { within = within; rows = rows }
      ]
      | inr ends ↦ absurd (let is = asked.ended ends in not_both (verdict_of (request_at q n) h) sections.B is.0 0 now is.1)
    ]

later : (o : Option ℕ) (m n : ℕ) → m ≤ n → IfSome o (λ own. own ≤ m) → IfSome o (λ own. own ≤ n)
later None m n le h = tt
later (Some own) m n le h = omega (arith, le, h)

-- its own LSN is within what the rows allow
own_within : (h : History) (q : Query) (o : Option ℕ) (reach : ℕ) → RowsAllowTo h q reach → IfSome o (λ own. (own ≤ hard_of h) × (allowed_at h q own ≡ true)) → IfSome o (λ own. own ≤ reach)
own_within h q None reach rows own = tt
own_within h q (Some lsn) reach rows own = leb-true lsn reach (sym (rows lsn own.0) ∙ own.1)

-- it goes as far as the rows allow it
pub reads_reach : OrderLaws → ReadsReachAsRowsAllow
reads_reach order h q reach reads allowed hard rows =
    let own = own_within h q (number_of q.act) reach rows (asked_of q.head q.act h 0 order reads allowed).own in
    record {
      own = own;
      allowed = λ n low high.
          let within : n ≤ hard_of h = omega (arith, high, hard) in
          (asked_of q.head q.act h n order reads allowed).within (rows n within ∙ le-leb n reach high) within;
      greatest = λ k all. elim (cases_lt reach k) [
        | inl above ↦ absurd (
            let free = free_at order h q k reads allowed (all k (later (number_of q.act) reach k (omega (arith, above)) own) (omega arith)) in
            let clash : true ≡ false = sym free.rows ∙ rows k free.within ∙ lt-leb k reach above in
            cc
            )
        | inr below ↦ below
      ];
    }

-- what it is asked at and allowed, it is allowed up to
allowed_up : OrderLaws → LowerLsnsAreAllowed → (h : History) (q : Query) (k : ℕ) → reads_the_log (op_of q.act) ≡ true → verdict_of q h ≡ verdicts.Allowed → verdict_of (request_at q k) h ≡ verdicts.Allowed → IsAllowedTo h q k
allowed_up order lower h q k reads allowed now = λ n low high.
    let free = free_at order h q k reads allowed now in
    let within : n ≤ hard_of h = let le = free.within in omega (arith, high, le) in
    (asked_of q.head q.act h n order reads allowed).within (lower (table_of h).rows (asked_in q) k n high free.rows) within

pub reads_above : OrderLaws → LowerLsnsAreAllowed → ReadsAboveAreDenied
reads_above order lower h q reach reads allowed is k above now =
    let up = is.greatest k (allowed_up order lower h q k reads allowed now) in
    omega (arith, up, above)

-- its reach is hardened
pub reach_hardened : OrderLaws → ReachesAreHardened
reach_hardened order h q reach reads allowed is = (free_at order h q reach reads allowed (is.allowed reach is.own (omega arith))).within
