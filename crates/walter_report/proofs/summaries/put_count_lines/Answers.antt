use Rattle.std.proofs.Common.{◌+◌, drop}
use Rattle.walter_rules.specs.Knowledge.{site_at}
use Rattle.walter_report.specs.Sites.{is_up, records}
use Rattle.walter_report.specs.Summaries.{count_lines}
use Rattle.walter_page.proofs.Going.{goes_on, goes_as, goes_err}
use Rattle.walter_report.proofs.Lined.{count_next}
use Rattle.walter_report.proofs.Telling.{tells_of, tells_itself}
use Rattle.walter_report.proofs.summaries.put_count_lines.Goals as goal

pub put_count_line-requires : goal.put_count_line-requires
put_count_line-requires g c =
    let k = c.loop-site.site in
    let here = c.as_slice.result.now in
    tells_itself c.index-overviews-site.result 0 (site_at k) (is_up here) (records here)
    (tells_of c.args.overviews.now c.index-overviews-site.result 0 c.args.trails.now c.index-trails-site.result here k
    c.requires c.loop-site-test.true c.index-overviews-site.is c.index-trails-site.is c.as_slice.ensures)

pub loop-site-preserved : goal.loop-site-preserved
loop-site-preserved g c =
    let k = c.loop-site.site in
    goes_on
    (goes_as _
    (count_next c.args.trails.now k c.index-trails-site.result c.as_slice.result.now c.loop-site-test.true
    c.index-trails-site.is c.as_slice.ensures)
    c.loop-site.invariant)
    c.in_ok-put_count_line.ensures

pub returns-in_err-put_count_line : goal.returns-in_err-put_count_line
returns-in_err-put_count_line g c =
    let k = c.loop-site.site in
    goes_err c.put_count_line.new.page c.from_residual.result c.from_residual.ensures.0
    (count_lines (k + 1) (drop (k + 1) c.args.trails.now))
    (goes_as _
    (count_next c.args.trails.now k c.index-trails-site.result c.as_slice.result.now c.loop-site-test.true
    c.index-trails-site.is c.as_slice.ensures)
    c.loop-site.invariant)
    c.in_err-put_count_line.ensures
