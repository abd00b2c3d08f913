-- What a caller sees of a source over a reader of std.
use Rattle.std.specs.Prelude.{ℕ}
use Rattle.walter_stream.specs.declared.std_source.StdSource.{StdSource}

-- the reader that a source is over
abbrev pub reader_of : {R : Type 0} → StdSource R → R
reader_of source = source.reader

-- how often a call has failed
abbrev pub faults_of : {R : Type 0} → StdSource R → ℕ
faults_of source = source.faults.count
