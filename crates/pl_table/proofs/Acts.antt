-- What goes case by case through the operations.
use Rattle.std.proofs.Common.{◌≡◌, ◌-◌, [], Some, None, refl, slice_get}
use Rattle.pl_table.specs.declared.requests.op.Op.{Op}
use Rattle.pl_table.specs.declared.requests.op.Op.TheVariants as ops
use Rattle.pl_table.specs.declared.requests.act.Act.{Act}
use Rattle.pl_table.specs.declared.requests.act.Act.TheVariants.{Write, Offer, Report, Get, Pull, Advance, Status, Failover, SetTable, Audit, Tidy}
use Rattle.pl_table.specs.Requests.Ops.{op_number, all_ops}
use Rattle.pl_table.specs.Requests.Request.{op_of}
use Rattle.pl_table.specs.Requests.Acts.{number_of, partitions_of}

-- each operation stands in the list of all at the place before its number
pub op_at : (op : Op) → slice_get all_ops (op_number op - 1) ≡ Some op
op_at ops.Write = refl
op_at ops.Offer = refl
op_at ops.Report = refl
op_at ops.Get = refl
op_at ops.Pull = refl
op_at ops.Advance = refl
op_at ops.Status = refl
op_at ops.Failover = refl
op_at ops.SetTable = refl
op_at ops.Audit = refl
op_at ops.Tidy = refl

-- what sets a table names no partition
pub names_none : (act : Act) → op_of act ≡ ops.SetTable → partitions_of act ≡ []
names_none (Write copy block) e = cc
names_none (Offer block) e = cc
names_none (Report lsn) e = refl
names_none (Get page lsn exact) e = cc
names_none (Pull lo hi lsn max) e = cc
names_none (Advance partition steps) e = cc
names_none Status e = refl
names_none (Failover primary) e = refl
names_none (SetTable text) e = refl
names_none (Audit first max) e = refl
names_none Tidy e = refl

-- nor an LSN
pub has_no_number : (act : Act) → op_of act ≡ ops.SetTable → number_of act ≡ None
has_no_number (Write copy block) e = cc
has_no_number (Offer block) e = cc
has_no_number (Report lsn) e = cc
has_no_number (Get page lsn exact) e = cc
has_no_number (Pull lo hi lsn max) e = cc
has_no_number (Advance partition steps) e = refl
has_no_number Status e = refl
has_no_number (Failover primary) e = refl
has_no_number (SetTable text) e = refl
has_no_number (Audit first max) e = refl
has_no_number Tidy e = refl
