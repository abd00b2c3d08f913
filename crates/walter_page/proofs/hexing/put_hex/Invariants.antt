use Rattle.std.proofs.Common.{length}
use Rattle.hex.specs.Hex.{encode_lower}
use Rattle.walter_page.proofs.Going.{Goes}
use Rattle.walter_page.proofs.hexing.put_hex.Given as goal

abbrev pub invariant-loop-left : goal.invariant-loop-left
invariant-loop-left g l =
    Goes g.K.Sink.holds g.K.Sink.faults l.initial.sink l.sink l.initial.page l.page
    (encode_lower l.bytes) (encode_lower l.left)

abbrev pub decreases-loop-left : goal.decreases-loop-left
decreases-loop-left g l = length l.left
