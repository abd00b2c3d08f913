use Rattle.std.proofs.Common.{◌<◌, ◌+◌, ◌++◌, map, drop, length, nat_lt, get_or, append-nil, ap, ◌∙◌, arith}
use Rattle.std.proofs.lemmas.Bool.Decides.{nat_tests}
use Rattle.std.proofs.lemmas.List.{length-map}
use Rattle.walter_page.specs.Lists.{comma_behind, list_behind}
use Rattle.walter_report.specs.Traces.{send_text}
use Rattle.walter_page.proofs.Going.{goes_first, goes_on, goes_as, goes_err, put_as, cut_as}
use Rattle.walter_page.proofs.Joined.{listed_behind, list_behind-next}
use Rattle.walter_report.proofs.traces.put_packets.Goals as goal

pub loop-place-init : goal.loop-place-init
loop-place-init g c =
    let sends = c.args.sends.now in
    let there : 0 < length sends = grind (arith, nat_tests) in
    goes_as (list_behind (nat_lt 0 0) (map send_text sends))
    (listed_behind (map send_text sends) (omega (arith, there, length-map sends send_text))) goes_first

pub loop-place-preserved : goal.loop-place-preserved
loop-place-preserved g c =
    let sends = c.args.sends.now in
    let k = c.loop-place.place in
    let send = c.index-sends-place.result in
    let comma = comma_behind (nat_lt 0 k) in
    goes_on (goes_as _ (list_behind-next send_text sends k send c.loop-place-test.true) c.loop-place.invariant)
    (put_as (comma ++ send_text (get_or sends k send))
    (append-nil (comma ++ send_text send) ∙ ap (λ s. comma ++ send_text s) c.index-sends-place.is)
    c.in_ok-put_packet.ensures)

pub returns-in_err-put_packet : goal.returns-in_err-put_packet
returns-in_err-put_packet g c =
    let sends = c.args.sends.now in
    let k = c.loop-place.place in
    let send = c.index-sends-place.result in
    let comma = comma_behind (nat_lt 0 k) in
    goes_err c.put_packet.new.page c.from_residual.result c.from_residual.ensures.0
    (list_behind (nat_lt 0 (k + 1)) (map send_text (drop (k + 1) sends)))
    (goes_as _ (list_behind-next send_text sends k send c.loop-place-test.true) c.loop-place.invariant)
    (cut_as (comma ++ send_text (get_or sends k send))
    (append-nil (comma ++ send_text send) ∙ ap (λ s. comma ++ send_text s) c.index-sends-place.is)
    c.in_err-put_packet.ensures)
