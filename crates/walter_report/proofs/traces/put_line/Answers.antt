use Rattle.walter_report.specs.Traces.{records_part, sends_part}
use Rattle.walter_page.proofs.Going.{cuts, cut_more, put_cut, put_then, put_last}
use Rattle.walter_report.proofs.traces.put_line.Goals as goal

pub returns-in_err-put_happened : goal.returns-in_err-put_happened
returns-in_err-put_happened g c =
    let came = c.args.entry.now.came in
    cuts c.put_happened.new.page c.from_residual.result c.from_residual.ensures.0
    (cut_more (sends_part came) (cut_more (records_part c.args.format came) c.in_err-put_happened.ensures))

pub returns-in_err-put_records : goal.returns-in_err-put_records
returns-in_err-put_records g c =
    cuts c.put_records.new.page c.from_residual-in_err-put_records.result
    c.from_residual-in_err-put_records.ensures.0
    (cut_more (sends_part c.args.entry.now.came) (put_cut c.in_ok-put_happened.ensures c.in_err-put_records.ensures))

pub returns : goal.returns
returns g c =
    put_last c.put_sends.new.sink c.put_sends.new.page (sends_part c.args.entry.now.came) c.put_sends.result
    (put_then c.in_ok-put_happened.ensures c.in_ok-put_records.ensures) c.put_sends.ensures
