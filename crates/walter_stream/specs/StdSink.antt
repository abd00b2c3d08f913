-- What a caller sees of a sink over a writer of std.
use Rattle.std.specs.Prelude.{ℕ}
use Rattle.walter_stream.specs.declared.std_sink.StdSink.{StdSink}

-- the writer that a sink is over
abbrev pub writer_of : {W : Type 0} → StdSink W → W
writer_of sink = sink.writer

-- how often a call has failed
abbrev pub faults_of : {W : Type 0} → StdSink W → ℕ
faults_of sink = sink.faults.count
