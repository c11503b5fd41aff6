use Rattle.mask_tagging.proofs.lightmac_tests.fifteen_bytes_get_their_tag.Given as goal

abbrev pub ghosts-tag : goal.ghosts-tag
ghosts-tag g a = record { name = a.blank.name; parts = a.blank.parts }
