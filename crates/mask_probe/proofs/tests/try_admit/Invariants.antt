use Rattle.mask_probe.proofs.tests.try_admit.Given as goal

abbrev pub ghosts-counted_admit : goal.ghosts-counted_admit
ghosts-counted_admit a = record { name = a.blank.name; parts = a.blank.parts }
