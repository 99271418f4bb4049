-- What a row matches.
use Rattle.std.specs.Prelude.{ℕ, Bool, true, ◌&&◌, ◌||◌, ◌==◌, nat_le, nat_lt, List, length, Option, Some, None, if◌then◌else◌}
use Rattle.std.specs.List.{list_all, list_any}
use Rattle.pl_table.specs.declared.tables.range.PartitionRange.{PartitionRange}
use Rattle.pl_table.specs.declared.tables.row.Row.{Row}
use Rattle.pl_table.specs.Requests.Ops.{same_role, lists_op}
use Rattle.pl_table.specs.Tables.Absent.{part_matches}
use Rattle.pl_table.specs.Requests.Asking.{Asked}

-- the range has the partition
abbrev pub is_within : PartitionRange → ℕ → Bool
is_within range p = nat_le range.from p && nat_le p range.to

-- The range of a row that allows matches if it has all partitions that are named, that of a row that
-- denies if it has at least one of them. If none is named, each range matches.
abbrev pub range_matches : Bool → List ℕ → PartitionRange → Bool
range_matches allows ps range = if allows then list_all (is_within range) ps else length ps == 0 || list_any (is_within range) ps

-- A row that allows and ends at an LSN matches up to it, one that denies matches above it. A request
-- that names no LSN is matched by both.
abbrev pub through_matches : Bool → Option ℕ → ℕ → Bool
through_matches allows None through = true
through_matches allows (Some lsn) through = if allows then nat_le lsn through else nat_lt through lsn

-- the row is about what is asked, whatever LSN that names: its principal, role, operation and range match
abbrev pub is_about : Row → Asked → Bool
is_about row a = part_matches (λ who. who == a.principal) row.who
    && (part_matches (same_role a.role) row.role
    && (part_matches (lists_op a.op) row.op
    && part_matches (range_matches row.allows a.partitions) row.range))

-- the row matches what is asked: it is about it, and matches its LSN
abbrev pub row_matches : Row → Asked → Bool
row_matches row a = is_about row a && part_matches (through_matches row.allows a.lsn) row.through
