use Rattle.mask_trivium.proofs.tests.try_start.Given as goal

abbrev pub ghosts-counted_start : goal.ghosts-counted_start
ghosts-counted_start a = record { name = a.blank.name; parts = a.blank.parts }
