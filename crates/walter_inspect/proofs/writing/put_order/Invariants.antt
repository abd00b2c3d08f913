use Rattle.std.proofs.Common.{drop, flat_map}
use Rattle.walter_inspect.specs.Findings.{item_line, order_text}
use Rattle.walter_page.proofs.Going.{Goes}
use Rattle.walter_inspect.proofs.writing.put_order.Given as goal

abbrev pub invariant-loop-taken : goal.invariant-loop-taken
invariant-loop-taken g l =
    Goes g.K.Sink.holds g.K.Sink.faults l.fn.sink l.sink l.fn.page l.page
    (order_text l.sites l.order) (flat_map item_line (drop l.taken-index l.order))
