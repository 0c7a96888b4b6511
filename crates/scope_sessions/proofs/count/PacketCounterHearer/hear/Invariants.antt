use Rattle.scope_sessions.proofs.count.PacketCounterHearer.hear.Given as goal

abbrev pub ghosts-count_packet : goal.ghosts-count_packet
ghosts-count_packet g a = record { name = a.blank.name; parts = a.blank.parts }
