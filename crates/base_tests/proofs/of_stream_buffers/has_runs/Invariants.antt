use Rattle.base_tests.proofs.of_stream_buffers.has_runs.Given as goal

abbrev pub ghosts-has_runs_by : goal.ghosts-has_runs_by
ghosts-has_runs_by a = record { name = a.blank.name; parts = a.blank.parts }
