use Rattle.pagelog_verify.proofs.report.Report.text.Goals as goal

pub returns-in-Agrees : goal.returns-in-Agrees
returns-in-Agrees c = record { value = rw c.in-Agrees.is c.agrees_text.ensures.value }

pub returns-in-Differs : goal.returns-in-Differs
returns-in-Differs c = record { value = rw c.in-Differs.is c.differs_text.ensures.value }
