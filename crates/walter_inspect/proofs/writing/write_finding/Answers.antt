use Rattle.std.proofs.Common.{append-nil}
use Rattle.walter_inspect.specs.Findings.{finding_text}
use Rattle.walter_page.proofs.Going.{cut_as, put_cut, written, unwritten}
use Rattle.walter_inspect.proofs.writing.write_finding.Goals as goal

pub returns-in_err-put_finding-clause-fault : goal.returns-in_err-put_finding-clause-fault
returns-in_err-put_finding-clause-fault g c =
    unwritten c.from_residual-in_err-put_finding.result c.from_residual-in_err-put_finding.ensures.1 c.in_ok-page.ensures
    c.in_err-put_finding.ensures

pub returns-in_err-flush-clause-fault : goal.returns-in_err-flush-clause-fault
returns-in_err-flush-clause-fault g c =
    let text = finding_text c.args.sites c.args.finding.now in
    unwritten c.from_residual-in_err-flush.result c.from_residual-in_err-flush.ensures.1 c.in_ok-page.ensures
    (cut_as text (append-nil text) (put_cut c.in_ok-put_finding.ensures c.in_err-flush.ensures.put))

pub returns-clause-ok : goal.returns-clause-ok
returns-clause-ok g c =
    written c.in_ok-page.ensures c.in_ok-flush.ensures.none c.in_ok-put_finding.ensures c.in_ok-flush.ensures.put
