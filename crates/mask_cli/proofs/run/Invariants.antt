use Rattle.mask_cli.proofs.run.Given as goal

-- the ledger is the one that the blank opens
abbrev pub ghosts-counted : goal.ghosts-counted
ghosts-counted g a = record { name = a.blank.name; parts = a.blank.parts }
