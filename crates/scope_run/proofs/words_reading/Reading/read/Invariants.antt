use Rattle.std.proofs.Common.{◌≡◌, drop, map, string_bytes}
use Rattle.scope_run.specs.Meanings.{state_of}
use Rattle.scope_run.specs.WordsReadings.{reading}
use Rattle.scope_run.proofs.words_reading.Reading.read.Given as goal

abbrev pub invariant-loop-text : goal.invariant-loop-text
invariant-loop-text l =
    reading l.word (state_of l.self) (map string_bytes (drop l.text-index l.words))
    ≡ reading l.word (state_of l.initial.self) (map string_bytes l.words)
