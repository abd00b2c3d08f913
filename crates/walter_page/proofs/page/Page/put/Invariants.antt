use Rattle.std.proofs.Common.{length}
use Rattle.walter_page.proofs.Going.{Goes}
use Rattle.walter_page.proofs.page.Page.put.Given as goal

abbrev pub invariant-loop-left : goal.invariant-loop-left
invariant-loop-left g l =
    Goes g.K.Sink.holds g.K.Sink.faults l.initial.sink l.sink l.initial.self l.self l.bytes l.left

abbrev pub decreases-loop-left : goal.decreases-loop-left
decreases-loop-left g l = length l.left
