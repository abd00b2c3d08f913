use Rattle.std.proofs.Common.{◌++◌, drop}
use Rattle.std.specs.Prelude.{codes}
use Rattle.walter_rules.specs.Knowledge.{site_at}
use Rattle.walter_page.specs.Lists.{list_behind}
use Rattle.walter_report.specs.Sites.{records, log_pieces}
use Rattle.walter_page.specs.Words.{listed}
use Rattle.walter_page.proofs.Going.{Goes}
use Rattle.walter_report.proofs.logs.put_log.Given as goal

abbrev pub invariant-loop-entry : goal.invariant-loop-entry
invariant-loop-entry g l =
    Goes g.K.Sink.holds g.K.Sink.faults l.fn.sink l.sink l.fn.page l.page
    (codes " log " ++ listed (log_pieces (site_at l.site) (records l.trail)))
    (list_behind l.some (log_pieces (site_at l.site) (records (drop l.entry-index l.trail))))
