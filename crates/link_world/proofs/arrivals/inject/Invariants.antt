use Rattle.link_world.proofs.arrivals.inject.Given as goal

abbrev pub ghosts-come : goal.ghosts-come
ghosts-come a = record { name = a.blank.name; parts = a.blank.parts }
