-- What the rules ask: of the principal, of the table's rows, of the arguments of the act.
use Rattle.std.specs.Prelude.{ℕ, ◌-◌, ◌^◌, Bool, true, false, not, ◌&&◌, nat_lt, List, take, slice_get, Option, Some, None, Result, Ok, Err}
use Rattle.std.specs.List.{list_all}
use Rattle.std.specs.Str.{bytes_eq}
use Rattle.pl_table.specs.declared.requests.head.Head.{Head}
use Rattle.pl_table.specs.declared.requests.op.Op.{Op}
use Rattle.pl_table.specs.declared.requests.op.Op.TheVariants as ops
use Rattle.pl_table.specs.declared.requests.act.Act.{Act}
use Rattle.pl_table.specs.declared.requests.act.Act.TheVariants as acts
use Rattle.pl_table.specs.declared.tables.row.Row.{Row}
use Rattle.pl_table.specs.Requests.Request.{Query}
use Rattle.pl_table.specs.Requests.Asking.{Asked}
use Rattle.pl_table.specs.Tables.Row.{row_matches}
use Rattle.pl_table.specs.Tables.Table.{WrittenTable, token_of}
use Rattle.pl_table.specs.declared.tables.fault.TableFault.{TableFault}
use Rattle.pl_table.specs.Tables.Fault.{fault_number}

-- the last epoch, from which there is no failover
abbrev pub last_epoch : ℕ
last_epoch = 2 ^ 32 - 1

-- there is a value, and it passes the test
abbrev pub is_some_and : {A : Type 0} → Option A → (A → Bool) → Bool
is_some_and None test = false
is_some_and (Some x) test = test x

-- the table lists the principal with the token of the request
abbrev pub is_known : WrittenTable → Head → Bool
is_known t head =
    is_some_and (token_of head.principal t.principals) (λ listed. bytes_eq listed head.token)

-- no row of the list matches
abbrev pub none_matches : List Row → Asked → Bool
none_matches rows a = list_all (λ row. not (row_matches row a)) rows

-- the row of this number matches and denies, and no row above it matches
abbrev pub denies_first : ℕ → List Row → Asked → Bool
denies_first number rows a = nat_lt 0 number
    && is_some_and (slice_get rows (number - 1)) (λ row. row_matches row a && not row.allows)
    && none_matches (take (number - 1) rows) a

-- the operation reads the hardened log: a page of it, or its blocks
abbrev pub reads_the_log : Op → Bool
reads_the_log ops.Write = false
reads_the_log ops.Offer = false
reads_the_log ops.Report = false
reads_the_log ops.Get = true
reads_the_log ops.Pull = true
reads_the_log ops.Advance = false
reads_the_log ops.Status = false
reads_the_log ops.Failover = false
reads_the_log ops.SetTable = false
reads_the_log ops.Audit = false
reads_the_log ops.Tidy = false

-- the copy that an act names
abbrev pub copy_of : Act → Option ℕ
copy_of (acts.Write copy block) = Some copy
copy_of (acts.Offer block) = None
copy_of (acts.Report lsn) = None
copy_of (acts.Get page lsn exact) = None
copy_of (acts.Pull lo hi lsn max) = None
copy_of (acts.Advance partition steps) = None
copy_of acts.Status = None
copy_of (acts.Failover primary) = None
copy_of (acts.SetTable text) = None
copy_of (acts.Audit first max) = None
copy_of acts.Tidy = None

-- the primary that an act names
abbrev pub primary_named : Act → Option ℕ
primary_named (acts.Write copy block) = None
primary_named (acts.Offer block) = None
primary_named (acts.Report lsn) = None
primary_named (acts.Get page lsn exact) = None
primary_named (acts.Pull lo hi lsn max) = None
primary_named (acts.Advance partition steps) = None
primary_named acts.Status = None
primary_named (acts.Failover primary) = Some primary
primary_named (acts.SetTable text) = None
primary_named (acts.Audit first max) = None
primary_named acts.Tidy = None

-- the text that an act has
abbrev pub text_in_act : Act → Option (List ℕ)
text_in_act (acts.Write copy block) = None
text_in_act (acts.Offer block) = None
text_in_act (acts.Report lsn) = None
text_in_act (acts.Get page lsn exact) = None
text_in_act (acts.Pull lo hi lsn max) = None
text_in_act (acts.Advance partition steps) = None
text_in_act acts.Status = None
text_in_act (acts.Failover primary) = None
text_in_act (acts.SetTable text) = Some text
text_in_act (acts.Audit first max) = None
text_in_act acts.Tidy = None

-- the number of the fault for which a text is not a table, or 0
abbrev pub fault_code : Result WrittenTable TableFault → ℕ
fault_code (Ok table) = 0
fault_code (Err fault) = fault_number fault

-- the act at another LSN, if it names one
abbrev pub act_at : Act → ℕ → Act
act_at (acts.Write copy block) n = acts.Write copy (record { lsn = n; records = block.records })
act_at (acts.Offer block) n = acts.Offer (record { lsn = n; records = block.records })
act_at (acts.Report lsn) n = acts.Report n
act_at (acts.Get page lsn exact) n = acts.Get page n exact
act_at (acts.Pull lo hi lsn max) n = acts.Pull lo hi n max
act_at (acts.Advance partition steps) n = acts.Advance partition steps
act_at acts.Status n = acts.Status
act_at (acts.Failover primary) n = acts.Failover primary
act_at (acts.SetTable text) n = acts.SetTable text
act_at (acts.Audit first max) n = acts.Audit first max
act_at acts.Tidy n = acts.Tidy

-- the request at another LSN
abbrev pub request_at : Query → ℕ → Query
request_at q n = record { head = q.head; act = act_at q.act n }
