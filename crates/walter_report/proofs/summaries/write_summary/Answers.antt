use Rattle.std.proofs.Common.{append-nil}
use Rattle.walter_report.specs.Summaries.{all_replies, replies_line, count_lines, summary_text}
use Rattle.walter_page.proofs.Going.{cut_more, cut_as, put_cut, put_then, written, unwritten}
use Rattle.walter_report.proofs.summaries.write_summary.Goals as goal

pub returns-in_err-put_load_line-clause-fault : goal.returns-in_err-put_load_line-clause-fault
returns-in_err-put_load_line-clause-fault g c =
    let trails = c.args.trails.now in
    unwritten c.from_residual-in_err-put_load_line.result c.from_residual-in_err-put_load_line.ensures.1
    c.in_ok-page.ensures
    (cut_more (count_lines 0 trails) (cut_more (replies_line (all_replies trails)) c.in_err-put_load_line.ensures))

pub returns-in_err-put_replies_line-clause-fault : goal.returns-in_err-put_replies_line-clause-fault
returns-in_err-put_replies_line-clause-fault g c =
    unwritten c.from_residual-in_err-put_replies_line.result c.from_residual-in_err-put_replies_line.ensures.1
    c.in_ok-page.ensures
    (cut_more (count_lines 0 c.args.trails.now)
    (put_cut c.in_ok-put_load_line.ensures c.in_err-put_replies_line.ensures))

pub returns-in_err-put_count_lines-clause-fault : goal.returns-in_err-put_count_lines-clause-fault
returns-in_err-put_count_lines-clause-fault g c =
    unwritten c.from_residual-in_err-put_count_lines.result c.from_residual-in_err-put_count_lines.ensures.1
    c.in_ok-page.ensures
    (put_cut (put_then c.in_ok-put_load_line.ensures c.in_ok-put_replies_line.ensures)
    c.in_err-put_count_lines.ensures)

pub returns-in_err-flush-clause-fault : goal.returns-in_err-flush-clause-fault
returns-in_err-flush-clause-fault g c =
    let text = summary_text c.args.number c.args.calls c.args.trails.now in
    unwritten c.from_residual-in_err-flush.result c.from_residual-in_err-flush.ensures.1 c.in_ok-page.ensures
    (cut_as text (append-nil text)
    (put_cut
    (put_then (put_then c.in_ok-put_load_line.ensures c.in_ok-put_replies_line.ensures) c.in_ok-put_count_lines.ensures)
    c.in_err-flush.ensures.put))

pub returns-clause-ok : goal.returns-clause-ok
returns-clause-ok g c =
    written c.in_ok-page.ensures c.in_ok-flush.ensures.none
    (put_then (put_then c.in_ok-put_load_line.ensures c.in_ok-put_replies_line.ensures) c.in_ok-put_count_lines.ensures)
    c.in_ok-flush.ensures.put
