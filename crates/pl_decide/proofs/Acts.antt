-- What goes case by case through the operations.
use Rattle.std.proofs.Common.{◌≡◌, ℕ, ◌+◌, ◌-◌, ◌^◌, ◌<◌, ◌≤◌, Bool, true, false, not, List, length, map, get_or, Option, Some, None, Result, Ok, Err, refl, sym, ap, ◌∙◌, inl, inr, arith}
use Rattle.std.specs.Prelude.{IsSome, IsOk, is_ok, is_none, IfSome}
use Rattle.std.specs.List.{range_with_len}
use Rattle.std.proofs.lemmas.Bool.{leb-false, ltb-false, not-false, eq-eqb, lt-ltb, cases_lt, le-leb, lt-leb}
use Rattle.pl_block.specs.Bounds.{window}
use Rattle.pl_table.specs.declared.requests.head.Head.{Head}
use Rattle.pl_table.specs.declared.requests.act.Act.{Act}
use Rattle.pl_table.specs.declared.requests.act.Act.TheVariants as acts
use Rattle.pl_table.specs.declared.tables.verdict.Verdict.TheVariants as verdicts
use Rattle.pl_table.specs.declared.requests.op.Op.TheVariants as ops
use Rattle.pl_table.specs.declared.requests.op.Op.{Op}
use Rattle.pl_table.specs.Requests.Request.{Query, op_of}
use Rattle.pl_table.specs.Requests.Asking.{asked_in, asked_at}
use Rattle.pl_table.specs.Tables.Table.{WrittenTable, token_of}
use Rattle.pl_table.specs.Tables.TableText.{table_reading}
use Rattle.pl_table.specs.Requests.Acts.{number_of, block_of, partitions_of}
use Rattle.pl_table.specs.Requests.Ops.{same_op, op_of_number, all_ops}
use Rattle.pl_decide.specs.declared.rule.Rule.TheVariants as rules
use Rattle.pl_decide.specs.declared.view.Epochs.{Epochs}
use Rattle.pl_decide.specs.declared.view.View.{View}
use Rattle.pl_decide.specs.Asked.{is_known, reads_the_log, copy_of, primary_named, text_in_act, act_at}
use Rattle.pl_decide.specs.WrittenOrder.{section_c, first_denial, decision}
use Rattle.pl_decide.specs.Laws.{AllowedMayBeServed, MayBeServed}
use Rattle.pl_decide.proofs.Each.{stands_not}

-- ---- each operation is found by its place in the list of all

pub op_placed : (place : Op → ℕ) → map place all_ops ≡ range_with_len 0 (length all_ops) → (x : Op) → op_of_number (place x + 1) ≡ Some x
op_placed place are ops.Write = ap (λ (l : List ℕ). op_of_number (get_or l 0 0 + 1)) are
op_placed place are ops.Offer = ap (λ (l : List ℕ). op_of_number (get_or l 1 0 + 1)) are
op_placed place are ops.Report = ap (λ (l : List ℕ). op_of_number (get_or l 2 0 + 1)) are
op_placed place are ops.Get = ap (λ (l : List ℕ). op_of_number (get_or l 3 0 + 1)) are
op_placed place are ops.Pull = ap (λ (l : List ℕ). op_of_number (get_or l 4 0 + 1)) are
op_placed place are ops.Advance = ap (λ (l : List ℕ). op_of_number (get_or l 5 0 + 1)) are
op_placed place are ops.Status = ap (λ (l : List ℕ). op_of_number (get_or l 6 0 + 1)) are
op_placed place are ops.Failover = ap (λ (l : List ℕ). op_of_number (get_or l 7 0 + 1)) are
op_placed place are ops.SetTable = ap (λ (l : List ℕ). op_of_number (get_or l 8 0 + 1)) are
op_placed place are ops.Audit = ap (λ (l : List ℕ). op_of_number (get_or l 9 0 + 1)) are
op_placed place are ops.Tidy = ap (λ (l : List ℕ). op_of_number (get_or l 10 0 + 1)) are

-- ---- views

-- a view by its parts
abbrev pub seen : ℕ → ℕ → Bool → Bool → View
seen hard copies agrees can = record { hard = hard; agrees = agrees; copies = copies; can_harden = can }

-- section C, with one hardened end and as many copies
pub same_log : (head : Head) (act : Act) (t : WrittenTable) (e : Epochs) (hard copies : ℕ) (x y can can' : Bool)
    → IfSome (block_of act) (λ block. hard < block.lsn → block.lsn ≤ hard + window → x ≡ y)
    → (same_op (op_of act) ops.Report ≡ true → can ≡ can')
    → first_denial section_c (record { head = head; act = act }) t e (seen hard copies x can) ≡ first_denial section_c (record { head = head; act = act }) t e (seen hard copies y can')
same_log head (acts.Write copy block) t e hard copies x y can can' agrees cans =
    elim (cases_lt hard block.lsn) [
      | inl above ↦ elim (cases_lt (hard + 64) block.lsn) [
        | inl far ↦ rw (lt-leb block.lsn hard above, lt-ltb (hard + 64) block.lsn far) refl
        | inr within ↦ ap (λ (a : Bool). first_denial section_c (record { head = head; act = acts.Write copy block }) t e (seen hard copies a can)) (agrees above within)
      ]
      | inr below ↦ rw (le-leb block.lsn hard below) refl
    ]
same_log head (acts.Offer block) t e hard copies x y can can' agrees cans =
    elim (cases_lt hard block.lsn) [
      | inl above ↦ elim (cases_lt (hard + 64) block.lsn) [
        | inl far ↦ rw (lt-leb block.lsn hard above, lt-ltb (hard + 64) block.lsn far) refl
        | inr within ↦ ap (λ (a : Bool). first_denial section_c (record { head = head; act = acts.Offer block }) t e (seen hard copies a can)) (agrees above within)
      ]
      | inr below ↦ rw (le-leb block.lsn hard below) refl
    ]
same_log head (acts.Report lsn) t e hard copies x y can can' agrees cans =
    ap (λ (c : Bool). first_denial section_c (record { head = head; act = acts.Report lsn }) t e (seen hard copies x c)) (cans refl)
same_log head (acts.Get page lsn exact) t e hard copies x y can can' agrees cans = refl
same_log head (acts.Pull lo hi lsn max) t e hard copies x y can can' agrees cans = refl
same_log head (acts.Advance partition steps) t e hard copies x y can can' agrees cans = refl
same_log head acts.Status t e hard copies x y can can' agrees cans = refl
same_log head (acts.Failover primary) t e hard copies x y can can' agrees cans = refl
same_log head (acts.SetTable text) t e hard copies x y can can' agrees cans = refl
same_log head (acts.Audit first max) t e hard copies x y can can' agrees cans = refl
same_log head acts.Tidy t e hard copies x y can can' agrees cans = refl

-- ---- other LSNs

-- the request of a head for an act
abbrev pub asks : Head → Act → Query
asks head act = record { head = head; act = act }

-- two acts have one operation and the same arguments, but for the LSN
pub record IsSameActAs (a b : Act) : Type 0 where
  pub op : op_of a ≡ op_of b
  pub partitions : partitions_of a ≡ partitions_of b
  pub block : block_of a ≡ block_of b
  pub copy : copy_of a ≡ copy_of b
  pub primary : primary_named a ≡ primary_named b
  pub text : text_in_act a ≡ text_in_act b

-- an act at another LSN
pub record IsAt (act : Act) (lsn : ℕ) : Type 0 where
  pub alike : IsSameActAs act (act_at act lsn)
  pub number : number_of (act_at act lsn) ≡ Some lsn

-- so is one that reads the log
pub read_at : (act : Act) (lsn : ℕ) → reads_the_log (op_of act) ≡ true → IsAt act lsn
read_at (acts.Write copy block) lsn reads = absurd cc
read_at (acts.Offer block) lsn reads = absurd cc
read_at (acts.Report n) lsn reads = absurd cc
read_at (acts.Get page n exact) lsn reads = record { alike = record { op = refl; partitions = refl; block = refl; copy = refl; primary = refl; text = refl }; number = refl }
read_at (acts.Pull lo hi n max) lsn reads = record { alike = record { op = refl; partitions = refl; block = refl; copy = refl; primary = refl; text = refl }; number = refl }
read_at (acts.Advance partition steps) lsn reads = absurd cc
read_at acts.Status lsn reads = absurd cc
read_at (acts.Failover primary) lsn reads = absurd cc
read_at (acts.SetTable text) lsn reads = absurd cc
read_at (acts.Audit first max) lsn reads = absurd cc
read_at acts.Tidy lsn reads = absurd cc

pub asks_at : (head : Head) (act : Act) (lsn : ℕ) → asked_in (asks head (act_at act lsn)) ≡ asked_at (asked_in (asks head act)) lsn
asks_at head (acts.Write copy block) lsn = refl
asks_at head (acts.Offer block) lsn = refl
asks_at head (acts.Report n) lsn = refl
asks_at head (acts.Get page n exact) lsn = refl
asks_at head (acts.Pull lo hi n max) lsn = refl
asks_at head (acts.Advance partition steps) lsn = refl
asks_at head acts.Status lsn = refl
asks_at head (acts.Failover primary) lsn = refl
asks_at head (acts.SetTable text) lsn = refl
asks_at head (acts.Audit first max) lsn = refl
asks_at head acts.Tidy lsn = refl

-- ---- what an allowed act has

some_of : {A : Type 0} (o : Option A) → is_none o ≡ false → IsSome o
some_of None h = absurd cc
some_of (Some x) h = refl

ok_of : {A B : Type 0} (r : Result A B) → not (is_ok r) ≡ false → IsOk r
ok_of (Ok x) h = refl
ok_of (Err x) h = absurd cc

act_served : (head : Head) (act : Act) (t : WrittenTable) (e : Epochs) (v : View) → decision (record { head = head; act = act }) t e v ≡ verdicts.Allowed → MayBeServed act t e v
act_served head (acts.Write copy block) t e v h =
    let q : Query = record { head = head; act = acts.Write copy block } in
    record {
      above = leb-false block.lsn v.hard (stands_not rules.HardenedAlready q t e v h);
      within = ltb-false (v.hard + 64) block.lsn (stands_not rules.AboveTheWindow q t e v h);
      agrees = not-false v.agrees (stands_not rules.OtherContent q t e v h);
      copy = leb-false v.copies copy (stands_not rules.NoSuchCopy q t e v h);
    }
act_served head (acts.Offer block) t e v h =
    let q : Query = record { head = head; act = acts.Offer block } in
    record {
      above = leb-false block.lsn v.hard (stands_not rules.HardenedAlready q t e v h);
      within = ltb-false (v.hard + 64) block.lsn (stands_not rules.AboveTheWindow q t e v h);
      agrees = not-false v.agrees (stands_not rules.OtherContent q t e v h);
    }
act_served head (acts.Report lsn) t e v h = not-false v.can_harden (stands_not rules.BelowQuorum (record { head = head; act = acts.Report lsn }) t e v h)
act_served head (acts.Get page lsn exact) t e v h = ltb-false v.hard lsn (stands_not rules.AboveTheEnd (record { head = head; act = acts.Get page lsn exact }) t e v h)
act_served head (acts.Pull lo hi lsn max) t e v h = ltb-false v.hard lsn (stands_not rules.AboveTheEnd (record { head = head; act = acts.Pull lo hi lsn max }) t e v h)
act_served head (acts.Advance partition steps) t e v h = tt
act_served head acts.Status t e v h = tt
act_served head (acts.Failover primary) t e v h =
    let q : Query = record { head = head; act = acts.Failover primary } in
    record {
      listed = some_of (token_of primary t.principals) (stands_not rules.UnlistedPrimary q t e v h);
      not_last = λ last. let clash : true ≡ false = sym (eq-eqb e.epoch (2 ^ 32 - 1) last) ∙ stands_not rules.LastEpoch q t e v h in cc;
    }
act_served head (acts.SetTable text) t e v h = ok_of (table_reading text) (stands_not rules.NoTable (record { head = head; act = acts.SetTable text }) t e v h)
act_served head (acts.Audit first max) t e v h = tt
act_served head acts.Tidy t e v h = tt

pub may_be_served : AllowedMayBeServed
may_be_served q t e v h =
    let not_below = ltb-false q.head.epoch e.epoch (stands_not rules.OlderEpoch q t e v h) in
    let not_above = ltb-false e.epoch q.head.epoch (stands_not rules.NewerEpoch q t e v h) in
    record {
      known = not-false (is_known t q.head) (stands_not rules.UnknownPrincipal q t e v h);
      epoch = omega arith;
      act = act_served q.head q.act t e v h;
    }
