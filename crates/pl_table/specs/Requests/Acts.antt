-- What an act names: its LSN, its block and its partitions.
use Rattle.std.specs.Prelude.{ℕ, ◌+◌, ◌-◌, ◌/◌, List, [], ◌∷◌, Option, Some, None}
use Rattle.std.specs.List.{range_with_len}
use Rattle.pl_block.specs.Block.{Content, touched}
use Rattle.pl_table.specs.declared.requests.act.Act.{Act}
use Rattle.pl_table.specs.declared.requests.act.Act.TheVariants.{Write, Offer, Report, Get, Pull, Advance, Status, Failover, SetTable, Audit, Tidy}

-- the LSN that an act names: that of its block, the one hardened up to, the one read at, or the first one pulled
abbrev pub number_of : Act → Option ℕ
number_of (Write copy block) = Some block.lsn
number_of (Offer block) = Some block.lsn
number_of (Report lsn) = Some lsn
number_of (Get page lsn exact) = Some lsn
number_of (Pull lo hi lsn max) = Some lsn
number_of (Advance partition steps) = None
number_of Status = None
number_of (Failover primary) = None
number_of (SetTable text) = None
number_of (Audit first max) = None
number_of Tidy = None

-- the block that an act brings
abbrev pub block_of : Act → Option Content
block_of (Write copy block) = Some block
block_of (Offer block) = Some block
block_of (Report lsn) = None
block_of (Get page lsn exact) = None
block_of (Pull lo hi lsn max) = None
block_of (Advance partition steps) = None
block_of Status = None
block_of (Failover primary) = None
block_of (SetTable text) = None
block_of (Audit first max) = None
block_of Tidy = None

-- all partitions from lo to hi
abbrev pub all_between : ℕ → ℕ → List ℕ
all_between lo hi = range_with_len lo (hi + 1 - lo)

-- the partitions that an act names: those that its block touches, that of its page, all from lo to hi, or the one that advances
abbrev pub partitions_of : Act → List ℕ
partitions_of (Write copy block) = touched block.records
partitions_of (Offer block) = touched block.records
partitions_of (Report lsn) = []
partitions_of (Get page lsn exact) = page / 65536 ∷ []
partitions_of (Pull lo hi lsn max) = all_between lo hi
partitions_of (Advance partition steps) = partition ∷ []
partitions_of Status = []
partitions_of (Failover primary) = []
partitions_of (SetTable text) = []
partitions_of (Audit first max) = []
partitions_of Tidy = []
