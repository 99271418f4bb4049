use Rattle.pl_table.proofs.Readings.{reads_as_table}
use Rattle.pl_table.proofs.laws.texts_read_as_tables.Goals as goal

pub returns : goal.returns
returns c = record { law = reads_as_table }
