use Rattle.std.proofs.Common.{◌++◌, append_assoc, sym, ap, ◌∙◌}
use Rattle.std.specs.Prelude.{codes}
use Rattle.std.specs.Fmt.{decimal}
use Rattle.walter_report.specs.Traces.{sends_text, sends_part}
use Rattle.walter_page.specs.Words.{line_feed}
use Rattle.walter_page.proofs.Going.{cuts, cut_more, cut_as, put_cut, put_as, put_then, put_last, puts_as}
use Rattle.walter_report.proofs.traces.put_sends.Goals as goal

pub returns-in_err-put : goal.returns-in_err-put
returns-in_err-put g c =
    let came = c.args.came.now in
    cuts c.put.new.self c.from_residual.result c.from_residual.ensures.0
    (cut_more line_feed (cut_more (decimal came.dropped) (cut_more (codes " ")
    (cut_more (sends_text came.sends) c.in_err-put.ensures))))

pub returns-in_err-put_packets : goal.returns-in_err-put_packets
returns-in_err-put_packets g c =
    let came = c.args.came.now in
    cuts c.put_packets.new.page c.from_residual-in_err-put_packets.result
    c.from_residual-in_err-put_packets.ensures.0
    (cut_more line_feed (cut_more (decimal came.dropped) (cut_more (codes " ")
    (put_cut c.in_ok-put.ensures
    (cut_as (sends_text came.sends) (ap sends_text c.as_slice.ensures) c.in_err-put_packets.ensures)))))

pub returns : goal.returns
returns g c =
    let came = c.args.came.now in
    let sends = codes " " ++ sends_text came.sends in
    let dropped = codes " " ++ decimal came.dropped in
    puts_as g.K.Sink.holds g.K.Sink.faults c.args.sink.now c.put_parts.new.sink c.args.page.now
    c.put_parts.new.page c.put_parts.result (sends ++ (dropped ++ line_feed)) (sends_part came)
    (sym (append_assoc sends dropped line_feed)
    ∙ ap (λ t. t ++ line_feed) (sym (append_assoc sends (codes " ") (decimal came.dropped))))
    (put_last c.put_parts.new.sink c.put_parts.new.page (dropped ++ line_feed) c.put_parts.result
    (put_then c.in_ok-put.ensures
    (put_as (sends_text came.sends) (ap sends_text c.as_slice.ensures) c.in_ok-put_packets.ensures))
    c.put_parts.ensures)
