use Rattle.std.proofs.Common.{drop}
use Rattle.walter_report.specs.Answered.{answered_lines}
use Rattle.walter_page.proofs.Going.{Goes}
use Rattle.walter_report.proofs.clients.put_client_lines.Given as goal

abbrev pub invariant-loop-number : goal.invariant-loop-number
invariant-loop-number g l =
    Goes g.K.Sink.holds g.K.Sink.faults l.initial.sink l.sink l.initial.page l.page
    (answered_lines 0 l.clients l.answered) (answered_lines l.number (drop l.number l.clients) l.answered)
