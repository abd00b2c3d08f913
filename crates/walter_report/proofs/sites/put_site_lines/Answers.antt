use Rattle.std.proofs.Common.{◌+◌, drop, length}
use Rattle.walter_rules.specs.Knowledge.{site_at}
use Rattle.walter_report.specs.Sites.{is_up, records, site_lines}
use Rattle.walter_page.proofs.Going.{goes_on, goes_as, goes_err}
use Rattle.walter_report.proofs.Lined.{site_next}
use Rattle.walter_report.proofs.Telling.{counted_sites, tells_of, tells_itself}
use Rattle.walter_report.proofs.sites.put_site_lines.Goals as goal

pub put_site_line-requires : goal.put_site_line-requires
put_site_line-requires g c =
    let k = c.loop-site.site in
    let here = c.as_slice.result.now in
    tells_itself c.index-overviews-site.result c.args.sites (site_at k) (is_up here) (records here)
    (tells_of c.args.overviews.now c.index-overviews-site.result c.args.sites c.args.trails.now
    c.index-trails-site.result here k c.requires c.loop-site-test.true c.index-overviews-site.is c.index-trails-site.is
    c.as_slice.ensures)

pub loop-site-preserved : goal.loop-site-preserved
loop-site-preserved g c =
    let k = c.loop-site.site in
    let here = c.as_slice.result.now in
    let overview = c.index-overviews-site.result in
    let tells = tells_of c.args.overviews.now overview c.args.sites c.args.trails.now c.index-trails-site.result here k
    c.requires c.loop-site-test.true c.index-overviews-site.is c.index-trails-site.is c.as_slice.ensures in
    goes_on
    (goes_as _
    (site_next c.args.sites c.args.trails.now k c.index-trails-site.result here (length overview.got.items)
    c.loop-site-test.true c.index-trails-site.is c.as_slice.ensures
    (counted_sites overview c.args.sites (site_at k) (is_up here) (records here) tells))
    c.loop-site.invariant)
    c.in_ok-put_site_line.ensures

pub returns-in_err-put_site_line : goal.returns-in_err-put_site_line
returns-in_err-put_site_line g c =
    let k = c.loop-site.site in
    let here = c.as_slice.result.now in
    let overview = c.index-overviews-site.result in
    let tells = tells_of c.args.overviews.now overview c.args.sites c.args.trails.now c.index-trails-site.result here k
    c.requires c.loop-site-test.true c.index-overviews-site.is c.index-trails-site.is c.as_slice.ensures in
    goes_err c.put_site_line.new.page c.from_residual.result c.from_residual.ensures.0
    (site_lines c.args.sites (k + 1) (drop (k + 1) c.args.trails.now))
    (goes_as _
    (site_next c.args.sites c.args.trails.now k c.index-trails-site.result here (length overview.got.items)
    c.loop-site-test.true c.index-trails-site.is c.as_slice.ensures
    (counted_sites overview c.args.sites (site_at k) (is_up here) (records here) tells))
    c.loop-site.invariant)
    c.in_err-put_site_line.ensures
