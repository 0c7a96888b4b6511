use Rattle.base_tests.proofs.of_stream_buffers.keeps.Given as goal

abbrev pub ghosts-keeps_by : goal.ghosts-keeps_by
ghosts-keeps_by a = record { name = a.blank.name; parts = a.blank.parts }
