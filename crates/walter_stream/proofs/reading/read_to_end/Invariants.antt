use Rattle.std.proofs.Common.{◌≡◌, ◌-◌, ◌≤◌, vec_len}
use Rattle.walter_stream.specs.Streams.{TakesFront}
use Rattle.walter_stream.proofs.reading.read_to_end.Given as goal

abbrev pub invariant-pieces : goal.invariant-pieces
invariant-pieces g l = record {
  within : vec_len l.bytes ≤ l.limit;
  taken : TakesFront (g.S.Source.left l.initial.source) (g.S.Source.left l.source) l.bytes.items;
  faultless : g.S.Source.faults l.source ≡ g.S.Source.faults l.initial.source;
}

abbrev pub decreases-pieces : goal.decreases-pieces
decreases-pieces g l = l.limit - vec_len l.bytes
