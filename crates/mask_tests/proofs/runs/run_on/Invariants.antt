use Rattle.mask_tests.proofs.runs.run_on.Given as goal

-- the ledger is the one that the blank opens
abbrev pub ghosts-run_words : goal.ghosts-run_words
ghosts-run_words g a = record { name = a.blank.name; parts = a.blank.parts }
