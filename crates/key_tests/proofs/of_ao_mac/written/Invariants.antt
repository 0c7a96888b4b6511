use Rattle.key_tests.proofs.of_ao_mac.written.Given as goal

abbrev pub ghosts-sealed : goal.ghosts-sealed
ghosts-sealed a = record { name = a.blank.name; parts = a.blank.parts }
