use Rattle.std.proofs.Common.{drop}
use Rattle.walter_report.specs.Sites.{site_lines}
use Rattle.walter_page.proofs.Going.{Goes}
use Rattle.walter_report.proofs.sites.put_site_lines.Given as goal

abbrev pub invariant-loop-site : goal.invariant-loop-site
invariant-loop-site g l =
    Goes g.K.Sink.holds g.K.Sink.faults l.initial.sink l.sink l.initial.page l.page
    (site_lines l.sites 0 l.trails) (site_lines l.sites l.site (drop l.site l.trails))
