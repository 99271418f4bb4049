-- The epoch, its primary and the table in force.
use Rattle.std.specs.Prelude.{ℕ, ◌+◌, Bool, true, false, List, [], ◌∷◌, if◌then◌else◌, Option, Some, None, unwrap_or}
use Rattle.pl_table.specs.Tables.Table.{WrittenTable}
use Rattle.pl_core.specs.History.{Effect, wrote, offered, hardened, advanced, failed_over, set, nothing, Entry, Start, History}

-- the effect begins the next epoch
abbrev pub begins_epoch : Effect → Bool
begins_epoch (wrote copy block) = false
begins_epoch (offered block) = false
begins_epoch (hardened to) = false
begins_epoch (advanced partition steps) = false
begins_epoch (failed_over primary) = true
begins_epoch (set table) = false
begins_epoch nothing = false

-- one more than the failovers
abbrev pub epoch_after : List Entry → ℕ
epoch_after [] = 1
epoch_after (e ∷ es) = if begins_epoch e.effect then epoch_after es + 1 else epoch_after es

-- the epoch
abbrev pub epoch_of : History → ℕ
epoch_of h = epoch_after h.entries

-- the entries since the last failover
abbrev pub this_epoch : List Entry → List Entry
this_epoch [] = []
this_epoch (e ∷ es) = if begins_epoch e.effect then [] else e ∷ this_epoch es

-- the primary after an effect: a failover names it
abbrev pub primary_by : Effect → ℕ → ℕ
primary_by (wrote copy block) before = before
primary_by (offered block) before = before
primary_by (hardened to) before = before
primary_by (advanced partition steps) before = before
primary_by (failed_over primary) before = primary
primary_by (set table) before = before
primary_by nothing before = before

-- the primary of the start, or the one that the last failover named
abbrev pub primary_after : Start → List Entry → ℕ
primary_after start [] = start.primary
primary_after start (e ∷ es) = primary_by e.effect (primary_after start es)

-- the primary of the epoch
abbrev pub primary_of : History → ℕ
primary_of h = primary_after h.start h.entries

-- the table that an effect sets
abbrev pub table_set : Effect → Option WrittenTable
table_set (wrote copy block) = None
table_set (offered block) = None
table_set (hardened to) = None
table_set (advanced partition steps) = None
table_set (failed_over primary) = None
table_set (set table) = Some table
table_set nothing = None

-- the table after an effect
abbrev pub table_by : Effect → WrittenTable → WrittenTable
table_by effect before = unwrap_or (table_set effect) before

-- the table of the start, or the one that was set last
abbrev pub table_after : Start → List Entry → WrittenTable
table_after start [] = start.table
table_after start (e ∷ es) = table_by e.effect (table_after start es)

-- the table in force
abbrev pub table_of : History → WrittenTable
table_of h = table_after h.start h.entries
