use Rattle.mask_keystream.proofs.tests.nine_zeros_become_the_keystream.Given as goal

abbrev pub ghosts-encrypted : goal.ghosts-encrypted
ghosts-encrypted g a = record { name = a.blank.name; parts = a.blank.parts }
