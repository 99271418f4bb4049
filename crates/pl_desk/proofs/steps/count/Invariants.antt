use Rattle.pl_desk.proofs.steps.count.Given as goal

-- the history that is announced is that of the database
abbrev pub ghosts-count_as : goal.ghosts-count_as
ghosts-count_as a = record { told = a.db.now }
