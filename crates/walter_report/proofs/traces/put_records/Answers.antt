use Rattle.std.proofs.Common.{◌++◌, append_assoc, ap, sym}
use Rattle.std.specs.Prelude.{codes}
use Rattle.walter_base.specs.declared.format.Format.{Format}
use Rattle.walter_rules.specs.Learning.{format_after as behind}
use Rattle.walter_report.specs.Traces.{record_text, records_part, format_after}
use Rattle.walter_page.proofs.Going.{cuts, cut_more, cut_as, put_cut, put_as, put_then, put_last, puts_as}
use Rattle.walter_report.proofs.traces.put_records.Goals as goal

pub returns-in_err-put_record : goal.returns-in_err-put_record
returns-in_err-put_record g c =
    let came = c.args.came.now in
    let format = c.args.format in
    cuts c.put_record.new.page c.from_residual.result c.from_residual.ensures.0
    (cut_more (record_text (format_after came format) came.flight) (cut_more (codes " ")
    (cut_more (record_text (behind came.kept format) came.wrote) (cut_more (codes " ") c.in_err-put_record.ensures))))

pub returns-in_err-put_record-2 : goal.returns-in_err-put_record-2
returns-in_err-put_record-2 g c =
    let came = c.args.came.now in
    let format = c.args.format in
    let kept = codes " " ++ record_text format came.kept in
    let wrote = record_text (behind came.kept format) came.wrote in
    let told = ap (λ (f : Format). codes " " ++ record_text f came.wrote) c.format_behind.ensures in
    cuts c.put_record-2.new.page c.from_residual-in_err-put_record-2.result
    c.from_residual-in_err-put_record-2.ensures.0
    (cut_more (record_text (format_after came format) came.flight) (cut_more (codes " ")
    (cut_as ((kept ++ codes " ") ++ wrote) (sym (append_assoc kept (codes " ") wrote))
    (put_cut c.in_ok-put_record.ensures (cut_as (codes " " ++ wrote) told c.in_err-put_record-2.ensures)))))

pub returns : goal.returns
returns g c =
    let came = c.args.came.now in
    let format = c.args.format in
    let kept = codes " " ++ record_text format came.kept in
    let second = record_text (behind came.kept format) came.wrote in
    let third = record_text (format_after came format) came.flight in
    let wrote = (kept ++ codes " ") ++ second in
    let flight = codes " " ++ third in
    let told_second = ap (λ (f : Format). codes " " ++ record_text f came.wrote) c.format_behind.ensures in
    let told_third = ap (λ (f : Format). codes " " ++ record_text f came.flight) c.format_after.ensures in
    puts_as g.K.Sink.holds g.K.Sink.faults c.args.sink.now c.put_record-3.new.sink c.args.page.now
    c.put_record-3.new.page c.put_record-3.result (wrote ++ flight) (records_part format came)
    (sym (append_assoc wrote (codes " ") third))
    (put_last c.put_record-3.new.sink c.put_record-3.new.page flight c.put_record-3.result
    (put_as wrote (sym (append_assoc kept (codes " ") second))
    (put_then c.in_ok-put_record.ensures (put_as (codes " " ++ second) told_second c.in_ok-put_record-2.ensures)))
    (puts_as g.K.Sink.holds g.K.Sink.faults c.put_record-2.new.sink c.put_record-3.new.sink c.put_record-2.new.page
    c.put_record-3.new.page c.put_record-3.result (codes " " ++ record_text c.format_after.result came.flight) flight
    told_third c.put_record-3.ensures))
