-- The parts of the sources and sinks over std's readers and writers.
use Rattle.std.specs.Prelude.{ℕ, List}
use Rattle.hippo_io.specs.Inputs.{ReadSoFar}
use Rattle.hippo_io.specs.declared.std_stream.StdStream.{StdStream}

-- the reader of a source, or the writer of a sink
abbrev pub stream_of : {T : Type 0} → StdStream T → T
stream_of stream = stream.inner

-- the number of errors that the stream returned; for a sink, writes that wrote nothing count too
abbrev pub stream_faults : {T : Type 0} → StdStream T → ℕ
stream_faults stream = stream.faults

-- what its reads have returned
abbrev pub stream_reads : {T : Type 0} → StdStream T → ReadSoFar
stream_reads stream = record { bytes = stream.returned.bytes; ended = stream.ended }

-- the bytes that its writes have accepted
abbrev pub stream_accepted : {T : Type 0} → StdStream T → List ℕ
stream_accepted stream = stream.accepted.bytes
