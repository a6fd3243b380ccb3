-- What a sink in memory keeps and counts.
use Rattle.gob_device.specs.Output.{Output}
use Rattle.gob_memory.specs.Planned.{calls_of}
use Rattle.gob_memory.specs.declared.counts.Counts.{Counts}
use Rattle.gob_memory.specs.declared.planned.Planned.{Planned}
use Rattle.gob_io.specs.declared.mem_sink.MemSink.{MemSink}

abbrev pub output_of : MemSink → Output
output_of s = record { bytes = s.bytes; writes = calls_of s.planned }

-- how often writes failed
abbrev pub sink_counts : MemSink → Counts
sink_counts s = s.counts

-- which writes are to fail
abbrev pub sink_plan : MemSink → Planned
sink_plan s = s.planned
