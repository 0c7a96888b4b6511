use Rattle.key_tests.proofs.of_ao_check.changes.a_row_takes_once_added_and_refuses_once_withdrawn.Given as goal

abbrev pub ghosts-changes : goal.ghosts-changes
ghosts-changes g a = record { name = a.blank.name; parts = a.blank.parts }
