use Rattle.std.proofs.Common.{drop, map, nat_lt}
use Rattle.walter_page.specs.Lists.{list_behind}
use Rattle.walter_report.specs.Traces.{send_text, sends_text}
use Rattle.walter_page.proofs.Going.{Goes}
use Rattle.walter_report.proofs.traces.put_packets.Given as goal

abbrev pub invariant-loop-place : goal.invariant-loop-place
invariant-loop-place g l =
    Goes g.K.Sink.holds g.K.Sink.faults l.fn.sink l.sink l.fn.page l.page
    (sends_text l.sends) (list_behind (nat_lt 0 l.place) (map send_text (drop l.place l.sends)))
