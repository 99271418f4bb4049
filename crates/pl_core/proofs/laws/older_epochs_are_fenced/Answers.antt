use Rattle.pl_core.specs.Epoch.{table_of}
use Rattle.pl_core.specs.Verdict.{epochs_of, view_of}
use Rattle.pl_core.proofs.laws.older_epochs_are_fenced.Goals as goal

pub returns : goal.returns
returns c = record { law = λ h q known older. c.older_epochs_are_denied.ensures.law q (table_of h) (epochs_of h) (view_of q.act h) known older }
