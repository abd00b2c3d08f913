use Rattle.std.proofs.Common.{◌++◌, ℕ, List, length, flat_map, ap}
use Rattle.std.specs.Prelude.{codes}
use Rattle.std.specs.Fmt.{decimal}
use Rattle.hex.specs.Hex.{encode_lower}
use Rattle.walter_report.specs.Reports.{reply_frame}
use Rattle.walter_page.specs.Words.{line_feed, or_dash}
use Rattle.walter_report.proofs.Fitting.{count_places, frames_places, fit_places}
use Rattle.walter_page.proofs.Going.{cuts, cut_more, cut_as, put_cut, put_as, put_then, put_last}
use Rattle.walter_report.proofs.clients.put_client_line.Goals as goal

abbrev head : ℕ → ℕ → ℕ → List ℕ
head number site count =
    codes "client " ++ decimal number ++ codes " site " ++ decimal site ++ codes " replies " ++ decimal count
    ++ codes " "

pub put_frames-requires : goal.put_frames-requires
put_frames-requires g c = fit_places c.as_slice-replies.result.now c.args.replies.now c.as_slice-replies.ensures c.requires

pub returns-in_err-put_parts : goal.returns-in_err-put_parts
returns-in_err-put_parts g c =
    let replies = c.args.replies.now in
    cuts c.put_parts.new.page c.from_residual.result c.from_residual.ensures.0
    (cut_more line_feed (cut_more (or_dash (encode_lower (flat_map reply_frame replies)))
    (cut_as (head c.args.number c.args.site (length replies))
    (ap (head c.args.number c.args.site)
    (count_places c.as_slice-replies.result.now replies c.as_slice-replies.ensures)) c.in_err-put_parts.ensures)))

pub returns-in_err-put_frames : goal.returns-in_err-put_frames
returns-in_err-put_frames g c =
    let replies = c.args.replies.now in
    let places = c.as_slice-replies.result.now in
    let are = c.as_slice-replies.ensures in
    cuts c.put_frames.new.page c.from_residual-in_err-put_frames.result c.from_residual-in_err-put_frames.ensures.0
    (cut_more line_feed
    (put_cut
    (put_as (head c.args.number c.args.site (length replies))
    (ap (head c.args.number c.args.site) (count_places places replies are)) c.in_ok-put_parts.ensures)
    (cut_as (or_dash (encode_lower (flat_map reply_frame replies)))
    (ap (λ t. or_dash (encode_lower t)) (frames_places places replies are)) c.in_err-put_frames.ensures)))

pub returns : goal.returns
returns g c =
    let replies = c.args.replies.now in
    let places = c.as_slice-replies.result.now in
    let are = c.as_slice-replies.ensures in
    put_last c.put.new.sink c.put.new.self line_feed c.put.result
    (put_then
    (put_as (head c.args.number c.args.site (length replies))
    (ap (head c.args.number c.args.site) (count_places places replies are)) c.in_ok-put_parts.ensures)
    (put_as (or_dash (encode_lower (flat_map reply_frame replies)))
    (ap (λ t. or_dash (encode_lower t)) (frames_places places replies are)) c.in_ok-put_frames.ensures))
    c.put.ensures
