use Rattle.key_tests.proofs.of_ao_check.changes.what_is_signed_is_what_another_program_signs.Given as goal

abbrev pub ghosts-signed : goal.ghosts-signed
ghosts-signed g a = record { name = a.blank.name; parts = a.blank.parts }
