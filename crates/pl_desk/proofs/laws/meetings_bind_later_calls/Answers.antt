use Rattle.pl_desk.proofs.Binding.{calls_forget_nothing, meetings_forget_nothing, older_epochs_stay_fenced, tables_only_get_newer}
use Rattle.pl_desk.proofs.laws.meetings_bind_later_calls.Goals as goal

pub returns : goal.returns
returns c = record { calls = calls_forget_nothing; meetings = meetings_forget_nothing; epochs = older_epochs_stay_fenced c.older_epochs_are_fenced.ensures.law; tables = tables_only_get_newer }
