-- What a request is: who asks and what, and which numbers it may have.
use Rattle.std.specs.Prelude.{◌≡◌, ◌^◌, ◌<◌, Bool, true, ◌&&◌, nat_le, length, IsTrue}
use Rattle.pl_block.specs.Bounds.{last_lsn}
use Rattle.pl_block.specs.Spelling.{IsBlock}
use Rattle.pl_table.specs.declared.requests.head.Head.{Head}
use Rattle.pl_table.specs.declared.requests.op.Op.{Op}
use Rattle.pl_table.specs.declared.requests.op.Op.TheVariants as ops
use Rattle.pl_table.specs.declared.requests.act.Act.{Act}
use Rattle.pl_table.specs.declared.requests.act.Act.TheVariants.{Write, Offer, Report, Get, Pull, Advance, Status, Failover, SetTable, Audit, Tidy}
use Rattle.pl_table.specs.Requests.Bounds.{longest_text, most_pulled, most_steps, most_listed}

-- who asks, and what
pub record Query : Type 0 where
  pub head : Head
  pub act : Act

-- the operation that is asked for
abbrev pub op_of : Act → Op
op_of (Write copy block) = ops.Write
op_of (Offer block) = ops.Offer
op_of (Report lsn) = ops.Report
op_of (Get page lsn exact) = ops.Get
op_of (Pull lo hi lsn max) = ops.Pull
op_of (Advance partition steps) = ops.Advance
op_of Status = ops.Status
op_of (Failover primary) = ops.Failover
op_of (SetTable text) = ops.SetTable
op_of (Audit first max) = ops.Audit
op_of Tidy = ops.Tidy

-- a test whether the numbers of an act are in their ranges, and the length of its text
abbrev pub is_in_range : Act → Bool
is_in_range (Write copy block) = true
is_in_range (Offer block) = true
is_in_range (Report lsn) = nat_le lsn last_lsn
is_in_range (Get page lsn exact) = nat_le lsn last_lsn
is_in_range (Pull lo hi lsn max) = nat_le lo hi && (nat_le 1 lsn && (nat_le lsn last_lsn && (nat_le 1 max && nat_le max most_pulled)))
is_in_range (Advance partition steps) = nat_le 1 steps && nat_le steps most_steps
is_in_range Status = true
is_in_range (Failover primary) = true
is_in_range (SetTable text) = nat_le (length text) longest_text
is_in_range (Audit first max) = nat_le 1 first && (nat_le 1 max && nat_le max most_listed)
is_in_range Tidy = true

-- the numbers of an act are in their ranges, and the length of its text
abbrev pub InRange : Act → Type 0
InRange act = IsTrue (is_in_range act)

-- each part of a head fits its field
pub record IsHead (h : Head) : Type 0 where
  pub principal : h.principal < 2 ^ 32
  pub token : length h.token ≡ 16
  pub database : h.database < 2 ^ 32
  pub epoch : h.epoch < 2 ^ 32

-- each argument of an act fits its field, and a block is one by the grammar
abbrev pub FitsActFields : Act → Type 0
FitsActFields (Write copy block) = (copy < 256) × IsBlock block
FitsActFields (Offer block) = IsBlock block
FitsActFields (Report lsn) = lsn < 2 ^ 64
FitsActFields (Get page lsn exact) = (page < 2 ^ 32) × (lsn < 2 ^ 64)
FitsActFields (Pull lo hi lsn max) = (lo < 2 ^ 16) × (hi < 2 ^ 16) × (lsn < 2 ^ 64) × (max < 2 ^ 16)
FitsActFields (Advance partition steps) = (partition < 2 ^ 16) × (steps < 2 ^ 16)
FitsActFields Status = Unit {0}
FitsActFields (Failover primary) = primary < 2 ^ 32
FitsActFields (SetTable text) = Unit {0}
FitsActFields (Audit first max) = (first < 2 ^ 64) × (max < 2 ^ 16)
FitsActFields Tidy = Unit {0}

-- a request in range: its head and its act fit their fields, and the act is in its ranges
pub record IsRequest (q : Query) : Type 0 where
  pub head : IsHead q.head
  pub fields : FitsActFields q.act
  pub in_range : InRange q.act
