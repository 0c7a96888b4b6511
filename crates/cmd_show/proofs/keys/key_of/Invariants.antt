use Rattle.cmd_show.proofs.keys.key_of.Given as goal

abbrev pub ghosts-key_in : goal.ghosts-key_in
ghosts-key_in a = record { name = a.blank.name; parts = a.blank.parts }
