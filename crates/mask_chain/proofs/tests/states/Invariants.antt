use Rattle.mask_chain.proofs.tests.states.Given as goal

abbrev pub ghosts-states_of : goal.ghosts-states_of
ghosts-states_of a = record { name = a.blank.name; parts = a.blank.parts }
