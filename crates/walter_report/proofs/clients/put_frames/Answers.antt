use Rattle.std.proofs.Common.{◌≡◌, ◌≤◌, ◌<◌, ◌++◌, ◌+◌, ◌∷◌, [], ℕ, List, drop, length, flat_map, get_or, ap, ◌∙◌, arith}
use Rattle.std.proofs.lemmas.Bool.Decides.{nat_tests}
use Rattle.std.proofs.lemmas.List.{drop_all}
use Rattle.std.specs.Borrow.{Bor}
use Rattle.hex.specs.Hex.{encode_lower}
use Rattle.walter_base.specs.declared.message.Reply.{Reply}
use Rattle.walter_report.specs.Reports.{reply_frame}
use Rattle.walter_page.specs.Words.{or_dash}
use Rattle.walter_page.proofs.Digits.{encode_lower-append, encode_lower-none, dash_of, digits_of}
use Rattle.walter_report.proofs.Fitting.{frame_some}
use Rattle.walter_page.proofs.Going.{goes_first, goes_on, goes_end, goes_as, goes_err, put_as, cut_as, puts_as}
use Rattle.walter_page.proofs.Parted.{flat_map-drop_more}
use Rattle.walter_report.proofs.clients.put_frames.Goals as goal

abbrev bytes_of : Bor Reply → List ℕ
bytes_of place = reply_frame place.now

next : (places : List (Bor Reply)) (k : ℕ) (place : Bor Reply) → k < length places → place ≡ get_or places k place
    → encode_lower (flat_map bytes_of (drop k places))
    ≡ encode_lower (reply_frame place.now) ++ encode_lower (flat_map bytes_of (drop (k + 1) places))
next places k place within is =
    ap encode_lower (flat_map-drop_more bytes_of places k place place within is)
    ∙ encode_lower-append (reply_frame place.now) (flat_map bytes_of (drop (k + 1) places))

pub returns-then-is_empty : goal.returns-then-is_empty
returns-then-is_empty g c =
    let replies = c.args.replies.now in
    let empty : length replies ≡ 0 = grind (arith, nat_tests) in
    puts_as g.K.Sink.holds g.K.Sink.faults c.args.sink.now c.put.new.sink c.args.page.now c.put.new.self c.put.result
    (45 ∷ []) (or_dash (encode_lower (flat_map bytes_of replies))) (dash_of bytes_of replies empty) c.put.ensures

pub loop-reply-init : goal.loop-reply-init
loop-reply-init g c =
    let replies = c.args.replies.now in
    let there : 0 < length replies = grind (arith, nat_tests) in
    goes_as (encode_lower (flat_map bytes_of replies))
    (digits_of bytes_of replies (λ place. frame_some place.now) there) goes_first

pub loop-reply-preserved : goal.loop-reply-preserved
loop-reply-preserved g c =
    let replies = c.args.replies.now in
    let place = c.reply-item.result in
    goes_on
    (goes_as _ (next replies c.loop-reply.reply-index place c.loop-reply-test.true c.reply-item.is)
    c.loop-reply.invariant)
    (put_as (encode_lower (reply_frame place.now)) (ap encode_lower (c.as_slice.ensures ∙ c.write_reply.ensures))
    c.in_ok-put_hex.ensures)

pub returns-in_err-put_hex : goal.returns-in_err-put_hex
returns-in_err-put_hex g c =
    let replies = c.args.replies.now in
    let place = c.reply-item.result in
    let k = c.loop-reply.reply-index in
    goes_err c.put_hex.new.page c.from_residual.result c.from_residual.ensures.0
    (encode_lower (flat_map bytes_of (drop (k + 1) replies)))
    (goes_as _ (next replies k place c.loop-reply-test.true c.reply-item.is) c.loop-reply.invariant)
    (cut_as (encode_lower (reply_frame place.now)) (ap encode_lower (c.as_slice.ensures ∙ c.write_reply.ensures))
    c.in_err-put_hex.ensures)

pub returns : goal.returns
returns g c =
    let replies = c.args.replies.now in
    let k = c.loop-reply.reply-index in
    let past : length replies ≤ k = grind arith in
    goes_end
    (goes_as [] (ap (λ ps. encode_lower (flat_map bytes_of ps)) (drop_all k replies past) ∙ encode_lower-none)
    c.loop-reply.invariant)
