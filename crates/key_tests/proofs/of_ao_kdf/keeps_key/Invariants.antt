use Rattle.key_tests.proofs.of_ao_kdf.keeps_key.Given as goal

abbrev pub ghosts-keeps : goal.ghosts-keeps
ghosts-keeps a = record { name = a.blank.name; parts = a.blank.parts }
