use Rattle.std.proofs.Common.{◌++◌, ap, sym, ◌∙◌}
use Rattle.walter_rules.specs.Knowledge.{site_at}
use Rattle.walter_page.specs.Lists.{has_pieces, list_behind}
use Rattle.walter_report.specs.Sites.{record_in, log_pieces}
use Rattle.walter_page.proofs.Going.{cuts, cut_more, cut_as, put_last, puts_as}
use Rattle.walter_report.proofs.Logged.{pieces_both}
use Rattle.walter_report.proofs.logs.put_entry.Goals as goal

pub returns-in_err-put_stable-clause-put : goal.returns-in_err-put_stable-clause-put
returns-in_err-put_stable-clause-put g c =
    let i = site_at c.args.site in
    let some = c.args.some.now in
    let kept = record_in c.args.entry.now.came.kept in
    let wrote = record_in c.args.entry.now.came.wrote in
    cuts c.put_stable.new.page c.from_residual.result c.from_residual.ensures.0
    (cut_as (list_behind some (log_pieces i (kept ++ wrote))) (sym (pieces_both some i kept wrote))
    (cut_more (list_behind (has_pieces some (log_pieces i kept)) (log_pieces i wrote)) c.in_err-put_stable.ensures.put))

pub returns-clause-put : goal.returns-clause-put
returns-clause-put g c =
    let i = site_at c.args.site in
    let some = c.args.some.now in
    let kept = record_in c.args.entry.now.came.kept in
    let wrote = record_in c.args.entry.now.came.wrote in
    let first = list_behind some (log_pieces i kept) in
    let second = list_behind c.put_stable.new.some (log_pieces i wrote) in
    puts_as g.K.Sink.holds g.K.Sink.faults c.args.sink.now c.put_stable-2.new.sink c.args.page.now
    c.put_stable-2.new.page c.put_stable-2.result (first ++ second) (list_behind some (log_pieces i (kept ++ wrote)))
    (ap (λ b. first ++ list_behind b (log_pieces i wrote)) c.in_ok-put_stable.ensures.some
    ∙ sym (pieces_both some i kept wrote))
    (put_last c.put_stable-2.new.sink c.put_stable-2.new.page second c.put_stable-2.result
    c.in_ok-put_stable.ensures.put c.put_stable-2.ensures.put)
