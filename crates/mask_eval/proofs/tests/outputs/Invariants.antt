use Rattle.mask_eval.proofs.tests.outputs.Given as goal

abbrev pub ghosts-two_shares : goal.ghosts-two_shares
ghosts-two_shares a = record { name = a.blank.name; parts = a.blank.parts }

abbrev pub ghosts-eight_shares : goal.ghosts-eight_shares
ghosts-eight_shares a = record { name = a.blank.name; parts = a.blank.parts }

abbrev pub ghosts-shared_words : goal.ghosts-shared_words
ghosts-shared_words a = record { name = a.blank.name; parts = a.blank.parts }
