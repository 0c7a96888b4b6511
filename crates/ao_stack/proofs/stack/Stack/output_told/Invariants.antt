use Rattle.ao_stack.proofs.stack.Stack.output_told.Given as goal

abbrev pub ghosts-hand_out : goal.ghosts-hand_out
ghosts-hand_out a = record { name = a.blank.name; parts = a.blank.parts }
