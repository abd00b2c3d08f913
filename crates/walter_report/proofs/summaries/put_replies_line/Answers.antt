use Rattle.std.proofs.Common.{ap}
use Rattle.walter_report.specs.Summaries.{all_replies, in_columns, columns_part}
use Rattle.walter_page.specs.Words.{line_feed}
use Rattle.walter_page.proofs.Going.{cuts, cut_more, cut_as, put_cut, put_as, put_then, put_last}
use Rattle.walter_report.proofs.summaries.put_replies_line.Goals as goal

pub returns-in_err-put : goal.returns-in_err-put
returns-in_err-put g c =
    cuts c.put.new.self c.from_residual.result c.from_residual.ensures.0
    (cut_more line_feed (cut_more (columns_part (in_columns (all_replies c.args.trails.now))) c.in_err-put.ensures))

pub returns-in_err-put_columns : goal.returns-in_err-put_columns
returns-in_err-put_columns g c =
    cuts c.put_columns.new.page c.from_residual-in_err-put_columns.result
    c.from_residual-in_err-put_columns.ensures.0
    (cut_more line_feed (put_cut c.in_ok-put.ensures
    (cut_as (columns_part (in_columns (all_replies c.args.trails.now)))
    (ap columns_part c.count_replies-counts.ensures) c.in_err-put_columns.ensures)))

pub returns : goal.returns
returns g c =
    put_last c.put-2.new.sink c.put-2.new.self line_feed c.put-2.result
    (put_then c.in_ok-put.ensures
    (put_as (columns_part (in_columns (all_replies c.args.trails.now)))
    (ap columns_part c.count_replies-counts.ensures) c.in_ok-put_columns.ensures))
    c.put-2.ensures
