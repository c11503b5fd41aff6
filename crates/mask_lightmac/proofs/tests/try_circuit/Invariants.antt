use Rattle.mask_lightmac.proofs.tests.try_circuit.Given as goal

abbrev pub ghosts-counted_circuit : goal.ghosts-counted_circuit
ghosts-counted_circuit a = record { name = a.blank.name; parts = a.blank.parts }
