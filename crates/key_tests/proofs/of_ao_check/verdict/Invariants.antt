use Rattle.key_tests.proofs.of_ao_check.verdict.Given as goal

abbrev pub ghosts-judged : goal.ghosts-judged
ghosts-judged a = record { name = a.blank.name; parts = a.blank.parts }
