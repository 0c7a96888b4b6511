use Rattle.ao_stack.proofs.stack.Stack.input.Given as goal

abbrev pub ghosts-hear_bytes : goal.ghosts-hear_bytes
ghosts-hear_bytes a = record { name = a.blank.name; parts = a.blank.parts }
