use Rattle.key_tests.proofs.of_ao_mac.verifies_later.Given as goal

abbrev pub ghosts-passes : goal.ghosts-passes
ghosts-passes a = record { name = a.blank.name; parts = a.blank.parts }
