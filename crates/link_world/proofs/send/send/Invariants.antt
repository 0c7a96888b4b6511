use Rattle.link_world.proofs.send.send.Given as goal

abbrev pub ghosts-send_counted : goal.ghosts-send_counted
ghosts-send_counted a = record { name = a.blank.name; parts = a.blank.parts }
