use Rattle.std.proofs.Common.{subst}
use Rattle.std.specs.Prelude.{OnErr}
use Rattle.walter_conn.specs.Connections.{sink_of}
use Rattle.walter_conn.specs.Frames.{frame}
use Rattle.walter_reply.proofs.Lengths.{short_fits}
use Rattle.walter_reply.specs.Replies.{reply_spelled}
use Rattle.walter_rules.specs.declared.outcome.Outcome.{Outcome}
use Rattle.walter_site.specs.Members.{IsShortOutcome}
use Rattle.walter_cell.specs.Lines.{LineValue, line_of}
use Rattle.walter_cell.specs.Written.{IsCutOff}
use Rattle.walter_cell.proofs.Lines.{can_fail, lost_told}
use Rattle.walter_cell.proofs.Meeting.{on_err}
use Rattle.walter_cell.proofs.Written.{put_cut}
use Rattle.walter_cell.proofs.line.Line.put_reply.Goals as goal

pub put-requires : goal.put-requires
put-requires g c = short_fits c.in-Replied.reply (subst (λ (o : Outcome). IsShortOutcome o) c.in-Replied.is c.requires.fits)

pub returns-in-Replied-clause-cut : goal.returns-in-Replied-clause-cut
returns-in-Replied-clause-cut g c =
    let old = c.self.inside.conn in
    let new = c.put.new.self in
    let bytes = frame (reply_spelled c.in-Replied.reply) in
    subst (λ (l : LineValue). OnErr c.put.result (IsCutOff c.args.outcome.now (line_of new).incoming.state l.sent (line_of new).sent)) c.self.view_is
    (put_cut (line_of old) (line_of new) (rw (← c.self.view_is) at c.requires.open) c.args.outcome.now c.in-Replied.reply c.in-Replied.is c.put.result
    (on_err c.put.result _ _ (λ lost. lost_told g.K.Sink (sink_of old) (sink_of new) bytes (line_of old).incoming.state lost) c.put.ensures.lost)
    c.put.ensures.broken)

pub returns-in-Replied-clause-can : goal.returns-in-Replied-clause-can
returns-in-Replied-clause-can g c = λ failed. can_fail c.put.new.self failed
