use Rattle.aotcp_c.proofs.shim_calls.aotcp_shim_inbound.Given as goal

abbrev pub ghosts-hand_in : goal.ghosts-hand_in
ghosts-hand_in a = record { name = a.blank.name; parts = a.blank.parts }
