-- Readers and writers of std as sources and sinks (own).
use Rattle.std.specs.Prelude.{ℕ, List, Option}
use Rattle.ao_base.specs.declared.adapters.ReadSource.{ReadSource}
use Rattle.ao_base.specs.declared.adapters.WriteSink.{WriteSink}
use Rattle.ao_base.specs.Outside.{Side, wary}

-- the source over a reader that has counted no fault (own)
abbrev pub source_over : {R : Type 0} → R → ReadSource R
source_over reader = record { reader = reader; faults = 0 }

-- the sink over a writer that has counted no fault (own)
abbrev pub sink_over : {W : Type 0} → W → WriteSink W
sink_over writer = record { writer = writer; faults = 0 }

-- what the source has left, where its reader tells it, and its count of faults (own)
abbrev pub side_of_source : {R : Type 0} → (R → Option (List ℕ)) → ReadSource R → Side
side_of_source remaining s = wary (remaining s.reader) s.faults

-- what the sink holds, where its writer tells it, and its count of faults (own)
abbrev pub side_of_sink : {W : Type 0} → (W → Option (List ℕ)) → WriteSink W → Side
side_of_sink contents s = wary (contents s.writer) s.faults
