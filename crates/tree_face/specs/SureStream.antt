-- The states of sources and sinks in memory.
use Rattle.std.specs.Prelude.{drop, Some}
use Rattle.tree_face.specs.declared.memory.streams.MemSink.{MemSink}
use Rattle.tree_face.specs.declared.memory.streams.MemSource.{MemSource}
use Rattle.tree_face.specs.declared.memory.streams.SureSink.{SureSink}
use Rattle.tree_face.specs.declared.memory.streams.SureSource.{SureSource}
use Rattle.tree_face.specs.Stream.{SourceState, SinkState}

abbrev pub source_state : SureSource → SourceState
source_state s = record { left = Some (drop s.at s.bytes.items); faults = 0 }

abbrev pub failing_source_state : MemSource → SourceState
failing_source_state s = record (source_state s.source) { faults = s.failures.faults }

abbrev pub sink_state : SureSink → SinkState
sink_state s = record { written = Some s.bytes.items; faults = s.faults }

abbrev pub failing_sink_state : MemSink → SinkState
failing_sink_state s = record (sink_state s.sink) { faults = s.failures.faults }
