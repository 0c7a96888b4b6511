use Rattle.scope_ladder.proofs.drawer.DrawerHearer.hear.Given as goal

abbrev pub ghosts-draw_packet : goal.ghosts-draw_packet
ghosts-draw_packet g a = record { name = a.blank.name; parts = a.blank.parts }
