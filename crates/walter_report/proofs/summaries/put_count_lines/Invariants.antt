use Rattle.std.proofs.Common.{drop}
use Rattle.walter_report.specs.Summaries.{count_lines}
use Rattle.walter_page.proofs.Going.{Goes}
use Rattle.walter_report.proofs.summaries.put_count_lines.Given as goal

abbrev pub invariant-loop-site : goal.invariant-loop-site
invariant-loop-site g l =
    Goes g.K.Sink.holds g.K.Sink.faults l.initial.sink l.sink l.initial.page l.page
    (count_lines 0 l.trails) (count_lines l.site (drop l.site l.trails))
