use Rattle.mask_emit.proofs.tests.try_emit.Given as goal

abbrev pub ghosts-counted_emit : goal.ghosts-counted_emit
ghosts-counted_emit a = record { name = a.blank.name; parts = a.blank.parts }
