-- The one spelling of a request.
use Rattle.std.specs.Prelude.{ℕ, Bool, false, true, List, [], ◌∷◌, ◌++◌}
use Rattle.std.specs.Int.{w16, w32, w64, to_be_bytes}
use Rattle.pl_block.specs.Spelling.{block_spelling}
use Rattle.pl_table.specs.declared.requests.head.Head.{Head}
use Rattle.pl_table.specs.declared.requests.act.Act.{Act}
use Rattle.pl_table.specs.declared.requests.act.Act.TheVariants.{Write, Offer, Report, Get, Pull, Advance, Status, Failover, SetTable, Audit, Tidy}
use Rattle.pl_table.specs.Requests.Ops.{role_number, op_number}
use Rattle.pl_table.specs.Requests.Request.{Query, op_of}

-- the number of a flag
abbrev pub flag_number : Bool → ℕ
flag_number false = 0
flag_number true = 1

-- the arguments: copy and block; a block; an LSN; page, LSN and flag; partitions from and to, LSN and count;
-- partition and steps; none; a principal; a text; the number of an entry and a count; none
abbrev pub act_spelling : Act → List ℕ
act_spelling (Write copy block) = copy ∷ block_spelling block
act_spelling (Offer block) = block_spelling block
act_spelling (Report lsn) = to_be_bytes w64 lsn
act_spelling (Get page lsn exact) = to_be_bytes w32 page ++ (to_be_bytes w64 lsn ++ (flag_number exact ∷ []))
act_spelling (Pull lo hi lsn max) = to_be_bytes w16 lo ++ (to_be_bytes w16 hi ++ (to_be_bytes w64 lsn ++ to_be_bytes w16 max))
act_spelling (Advance partition steps) = to_be_bytes w16 partition ++ to_be_bytes w16 steps
act_spelling Status = []
act_spelling (Failover primary) = to_be_bytes w32 primary
act_spelling (SetTable text) = text
act_spelling (Audit first max) = to_be_bytes w64 first ++ to_be_bytes w16 max
act_spelling Tidy = []

-- principal, token, role, database and epoch
abbrev pub head_spelling : Head → List ℕ
head_spelling h = to_be_bytes w32 h.principal ++ (h.token ++ (role_number h.role ∷ (to_be_bytes w32 h.database ++ to_be_bytes w32 h.epoch)))

-- the head, the operation, and then the arguments
abbrev pub request_spelling : Query → List ℕ
request_spelling q = head_spelling q.head ++ (op_number (op_of q.act) ∷ act_spelling q.act)
