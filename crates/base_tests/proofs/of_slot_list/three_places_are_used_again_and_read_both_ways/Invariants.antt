use Rattle.base_tests.proofs.of_slot_list.three_places_are_used_again_and_read_both_ways.Given as goal

abbrev pub ghosts-are_used_again : goal.ghosts-are_used_again
ghosts-are_used_again g a = record { name = a.blank.name; parts = a.blank.parts }
