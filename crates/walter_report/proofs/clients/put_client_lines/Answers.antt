use Rattle.std.proofs.Common.{◌+◌, drop}
use Rattle.walter_report.specs.Answered.{answered_lines}
use Rattle.walter_report.proofs.Fitting.{answered_next}
use Rattle.walter_page.proofs.Going.{goes_on, goes_as, goes_err}
use Rattle.walter_report.proofs.clients.put_client_lines.Goals as goal

pub loop-number-preserved : goal.loop-number-preserved
loop-number-preserved g c =
    let clients = c.args.clients.now in
    let answered = c.args.answered.now in
    let number = c.loop-number.number in
    goes_on
    (goes_as _
    (answered_next clients answered number c.index-clients-number.result c.index-answered-number.result c.loop-number-test.true
    c.requires.clients c.index-clients-number.is c.index-answered-number.is)
    c.loop-number.invariant)
    c.in_ok-put_client_line.ensures

pub returns-in_err-put_client_line : goal.returns-in_err-put_client_line
returns-in_err-put_client_line g c =
    let clients = c.args.clients.now in
    let answered = c.args.answered.now in
    let number = c.loop-number.number in
    goes_err c.put_client_line.new.page c.from_residual.result c.from_residual.ensures.0
    (answered_lines (number + 1) (drop (number + 1) clients) answered)
    (goes_as _
    (answered_next clients answered number c.index-clients-number.result c.index-answered-number.result c.loop-number-test.true
    c.requires.clients c.index-clients-number.is c.index-answered-number.is)
    c.loop-number.invariant)
    c.in_err-put_client_line.ensures
