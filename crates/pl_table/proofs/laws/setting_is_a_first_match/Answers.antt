use Rattle.pl_table.proofs.Settings.{row_of_setting, somebody_is_allowed}
use Rattle.pl_table.proofs.laws.setting_is_a_first_match.Goals as goal

pub returns : goal.returns
returns c = record { row = row_of_setting; table = somebody_is_allowed }
