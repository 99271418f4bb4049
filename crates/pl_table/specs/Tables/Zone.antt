-- How many copies a landing zone has, and how many of them are a quorum.
use Rattle.std.specs.Prelude.{ℕ}
use Rattle.pl_table.specs.declared.tables.zone.Zone.{Zone}
use Rattle.pl_table.specs.declared.tables.zone.Zone.TheVariants.{Three, Six}

-- the copies of a zone
abbrev pub copies_in : Zone → ℕ
copies_in Three = 3
copies_in Six = 6

-- as many copies harden an LSN
abbrev pub quorum_in : Zone → ℕ
quorum_in Three = 2
quorum_in Six = 4
