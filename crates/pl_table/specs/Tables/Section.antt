-- The sections of the written order.
use Rattle.std.specs.Prelude.{ℕ}
use Rattle.pl_table.specs.declared.tables.verdict.Section.{Section}
use Rattle.pl_table.specs.declared.tables.verdict.Section.TheVariants.{A, B, C}

-- the number of a section in a reply
abbrev pub section_number : Section → ℕ
section_number A = 1
section_number B = 2
section_number C = 3
