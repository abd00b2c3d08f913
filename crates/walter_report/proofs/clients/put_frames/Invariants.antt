use Rattle.std.proofs.Common.{drop, flat_map}
use Rattle.hex.specs.Hex.{encode_lower}
use Rattle.walter_report.specs.Reports.{reply_frame}
use Rattle.walter_page.specs.Words.{or_dash}
use Rattle.walter_page.proofs.Going.{Goes}
use Rattle.walter_report.proofs.clients.put_frames.Given as goal

abbrev pub invariant-loop-reply : goal.invariant-loop-reply
invariant-loop-reply g l =
    Goes g.K.Sink.holds g.K.Sink.faults l.fn.sink l.sink l.fn.page l.page
    (or_dash (encode_lower (flat_map (λ place. reply_frame place.now) l.replies)))
    (encode_lower (flat_map (λ place. reply_frame place.now) (drop l.reply-index l.replies)))
