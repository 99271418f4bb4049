use Rattle.std.proofs.Common.{◌≡◌, Result, Ok, Err, sym}
use Rattle.pl_table.specs.declared.tables.fault.TableFault.{TableFault}
use Rattle.pl_block.specs.Faults.{Gives}
use Rattle.pl_table.specs.Tables.Fault.{returned}
use Rattle.pl_table.specs.Tables.Table.{WrittenTable}
use Rattle.pl_table.proofs.tables.text.table_text.TableText.new.Goals as goal

-- what was read with no failed allocation is what the text reads as
same : (kept reading : Result WrittenTable TableFault) → Gives (λ t. t) (returned kept) reading → kept ≡ reading
same (Ok t) reading is = sym is
same (Err fault) reading is = sym is

pub of-requires : goal.of-requires
of-requires c = record { reading = same c.in_ok-reading.reading _ (rw (c.in_ok-reading.ensures.ok, c.deref.ensures.value) at c.read_table.ensures.exact) }
