use Rattle.cmd_check.proofs.answers.answer.Given as goal

abbrev pub ghosts-check_lines : goal.ghosts-check_lines
ghosts-check_lines g a = record { name = a.blank.name; parts = a.blank.parts }

abbrev pub ghosts-check_packets : goal.ghosts-check_packets
ghosts-check_packets g a = record { name = a.blank.name; parts = a.blank.parts }
