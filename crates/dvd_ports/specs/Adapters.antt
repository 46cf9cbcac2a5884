-- What the contracts see of a source over a reader of std, and of a sink over a writer.
use Rattle.std.specs.Prelude.{ℕ, length}
use Rattle.dvd_ports.specs.declared.adapters.StdSink.{StdSink}
use Rattle.dvd_ports.specs.declared.adapters.StdSource.{StdSource}
use Rattle.dvd_ports.specs.declared.counted.Counted.{Counted}

-- the reader whose calls are counted
abbrev pub counted_reader : {R : Type 0} → Counted R → R
counted_reader counted = counted.reader

-- how often it was called
abbrev pub calls_made : {R : Type 0} → Counted R → ℕ
calls_made counted = length counted.calls.bytes

-- the reader of a source
abbrev pub source_reader : {R : Type 0} → StdSource R → R
source_reader source = counted_reader source.reader

-- how often a source has called its reader
abbrev pub source_calls : {R : Type 0} → StdSource R → ℕ
source_calls source = calls_made source.reader

-- the writer of a sink
abbrev pub sink_writer : {W : Type 0} → StdSink W → W
sink_writer sink = sink.writer
