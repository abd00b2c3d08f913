use Rattle.std.proofs.Common.{length, ap}
use Rattle.walter_rules.specs.Knowledge.{site_at}
use Rattle.walter_report.specs.Sites.{records, log_pieces, events_part}
use Rattle.walter_report.specs.Summaries.{count_part, count_line}
use Rattle.walter_page.proofs.Going.{cuts, cut_more, put_last, puts_as}
use Rattle.walter_report.proofs.summaries.put_count_line.Goals as goal
use Rattle.std.proofs.Common.{◌++◌}

pub returns-in_err-put_events : goal.returns-in_err-put_events
returns-in_err-put_events g c =
    cuts c.put_events.new.page c.from_residual.result c.from_residual.ensures.0
    (cut_more (count_part (length (log_pieces (site_at c.args.site) (records c.args.trail.now))))
    c.in_err-put_events.ensures)

pub returns : goal.returns
returns g c =
    let events = events_part c.args.site c.args.trail.now in
    puts_as g.K.Sink.holds g.K.Sink.faults c.args.sink.now c.put_parts.new.sink c.args.page.now c.put_parts.new.page
    c.put_parts.result (events ++ count_part c.args.overview.now.commits) (count_line c.args.site c.args.trail.now)
    (ap (λ n. events ++ count_part n) c.requires.commits)
    (put_last c.put_parts.new.sink c.put_parts.new.page (count_part c.args.overview.now.commits) c.put_parts.result
    c.in_ok-put_events.ensures c.put_parts.ensures)
