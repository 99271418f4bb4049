use Rattle.pl_core.proofs.AboveTheWindow.{nothing_stands, runs_end}
use Rattle.pl_core.proofs.laws.runs_end_in_the_window.Goals as goal

pub returns : goal.returns
returns c = record { above = nothing_stands c.order_laws.ensures.law; same = runs_end c.order_laws.ensures.law }
