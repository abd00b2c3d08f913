use Rattle.std.specs.Prelude.{codes}
use Rattle.walter_report.specs.Traces.{event_text, outcome_text}
use Rattle.walter_page.proofs.Going.{cuts, cut_more, put_cut, put_then, put_last}
use Rattle.walter_report.proofs.traces.put_happened.Goals as goal

pub returns-in_err-put_parts : goal.returns-in_err-put_parts
returns-in_err-put_parts g c =
    let e = c.args.entry.now in
    cuts c.put_parts.new.page c.from_residual.result c.from_residual.ensures.0
    (cut_more (outcome_text e.came.outcome)
    (cut_more (codes " ") (cut_more (event_text e.event) c.in_err-put_parts.ensures)))

pub returns-in_err-put_event : goal.returns-in_err-put_event
returns-in_err-put_event g c =
    let e = c.args.entry.now in
    cuts c.put_event.new.page c.from_residual-in_err-put_event.result c.from_residual-in_err-put_event.ensures.0
    (cut_more (outcome_text e.came.outcome)
    (cut_more (codes " ") (put_cut c.in_ok-put_parts.ensures c.in_err-put_event.ensures)))

pub returns-in_err-put : goal.returns-in_err-put
returns-in_err-put g c =
    let e = c.args.entry.now in
    cuts c.put.new.self c.from_residual-in_err-put.result c.from_residual-in_err-put.ensures.0
    (cut_more (outcome_text e.came.outcome)
    (put_cut (put_then c.in_ok-put_parts.ensures c.in_ok-put_event.ensures) c.in_err-put.ensures))

pub returns : goal.returns
returns g c =
    put_last c.put_outcome.new.sink c.put_outcome.new.page (outcome_text c.args.entry.now.came.outcome)
    c.put_outcome.result
    (put_then (put_then c.in_ok-put_parts.ensures c.in_ok-put_event.ensures) c.in_ok-put.ensures)
    c.put_outcome.ensures
