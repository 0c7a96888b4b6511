use Rattle.aotcp_c.proofs.shim_calls.aotcp_shim_outbound.Given as goal

abbrev pub ghosts-hand_out : goal.ghosts-hand_out
ghosts-hand_out a = record { name = a.blank.name; parts = a.blank.parts }
