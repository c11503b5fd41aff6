use Rattle.mask_check.proofs.tests.try_check.Given as goal

abbrev pub ghosts-counted_check : goal.ghosts-counted_check
ghosts-counted_check a = record { name = a.blank.name; parts = a.blank.parts }
