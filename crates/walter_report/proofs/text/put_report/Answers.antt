use Rattle.std.proofs.Common.{◌≡◌, ◌≤◌, ◌+◌, length, ap, ◌∙◌, arith}
use Rattle.walter_report.specs.Answered.{answered_lines}
use Rattle.walter_report.specs.Reports.{client_lines}
use Rattle.walter_report.specs.Sites.{site_lines}
use Rattle.walter_report.proofs.Fitting.{answered_fit, answered_as}
use Rattle.walter_page.proofs.Going.{cuts, cut_more, cut_as, put_cut, put_as, put_then, put_last}
use Rattle.walter_report.proofs.text.put_report.Goals as goal

pub put_client_lines-requires-clause-frames : goal.put_client_lines-requires-clause-frames
put_client_lines-requires-clause-frames g c =
    answered_fit c.args.answered.now c.args.trails.now c.requires.frames c.requires.replies

pub returns-in_err-put_first_line : goal.returns-in_err-put_first_line
returns-in_err-put_first_line g c =
    let s = c.args.scenario.now in
    let trails = c.args.trails.now in
    cuts c.put_first_line.new.page c.from_residual.result c.from_residual.ensures.0
    (cut_more (site_lines s.catalog.sites 0 trails) (cut_more (client_lines 0 s.clients trails)
    c.in_err-put_first_line.ensures))

pub returns-in_err-put_client_lines : goal.returns-in_err-put_client_lines
returns-in_err-put_client_lines g c =
    let s = c.args.scenario.now in
    let trails = c.args.trails.now in
    let answered = c.args.answered.now in
    let few : 0 + length s.clients ≤ length answered = omega (arith, c.requires.clients) in
    let lines : answered_lines 0 c.as_slice.result.now answered ≡ client_lines 0 s.clients trails =
    ap (λ cs. answered_lines 0 cs answered) c.as_slice.ensures
    ∙ answered_as 0 s.clients answered trails few c.requires.replies in
    cuts c.put_client_lines.new.page c.from_residual-in_err-put_client_lines.result
    c.from_residual-in_err-put_client_lines.ensures.0
    (cut_more (site_lines s.catalog.sites 0 trails)
    (put_cut c.in_ok-put_first_line.ensures
    (cut_as (client_lines 0 s.clients trails) lines c.in_err-put_client_lines.ensures)))

pub returns : goal.returns
returns g c =
    let s = c.args.scenario.now in
    let trails = c.args.trails.now in
    let answered = c.args.answered.now in
    let few : 0 + length s.clients ≤ length answered = omega (arith, c.requires.clients) in
    let lines : answered_lines 0 c.as_slice.result.now answered ≡ client_lines 0 s.clients trails =
    ap (λ cs. answered_lines 0 cs answered) c.as_slice.ensures
    ∙ answered_as 0 s.clients answered trails few c.requires.replies in
    put_last c.put_site_lines.new.sink c.put_site_lines.new.page (site_lines s.catalog.sites 0 trails)
    c.put_site_lines.result
    (put_then c.in_ok-put_first_line.ensures
    (put_as (client_lines 0 s.clients trails) lines c.in_ok-put_client_lines.ensures))
    c.put_site_lines.ensures
