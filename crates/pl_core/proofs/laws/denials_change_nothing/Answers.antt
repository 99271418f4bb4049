use Rattle.pl_core.proofs.Denials.{denied_entry, denied_reply}
use Rattle.pl_core.proofs.laws.denials_change_nothing.Goals as goal

pub returns : goal.returns
returns c = record { entry = denied_entry; reply = denied_reply }
