use Rattle.std.proofs.Common.{length}
use Rattle.walter_rules.specs.Knowledge.{site_at}
use Rattle.walter_report.specs.Sites.{records, commits_part}
use Rattle.walter_page.proofs.Going.{cuts, cut_more, put_last}
use Rattle.walter_report.proofs.sites.put_site_line.Goals as goal

pub returns-in_err-put_events : goal.returns-in_err-put_events
returns-in_err-put_events g c =
    cuts c.put_events.new.page c.from_residual.result c.from_residual.ensures.0
    (cut_more
    (commits_part (length c.args.overview.now.got.items) (site_at c.args.site) (records c.args.trail.now))
    c.in_err-put_events.ensures)

pub returns : goal.returns
returns g c =
    put_last c.put_commits.new.sink c.put_commits.new.page
    (commits_part (length c.args.overview.now.got.items) (site_at c.args.site) (records c.args.trail.now))
    c.put_commits.result c.in_ok-put_events.ensures c.put_commits.ensures
