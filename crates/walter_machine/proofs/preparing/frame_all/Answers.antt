use Rattle.std.proofs.Common.{◌≡◌, ◌<◌, List, length, get_or, subst}
use Rattle.walter_rules.specs.Sending.{Send}
use Rattle.walter_machine.proofs.Framing.{frames_more, spelled_more}
use Rattle.walter_machine.proofs.preparing.frame_all.Goals as goal

pub loop-packet-preserved : goal.loop-packet-preserved
loop-packet-preserved c =
    let sends : List Send = c.args.sends.now in
    let n = c.loop-packet.packet-index in
    let s : Send = c.loop-packet-item.result in
    let within : n < length sends = subst (λ (l : List Send). n < length l) c.as_slice-packet-items.ensures c.loop-packet-test.true in
    let is : s ≡ get_or sends n s = subst (λ (l : List Send). s ≡ get_or l n s) c.as_slice-packet-items.ensures c.loop-packet-item.is in
    let frame = c.in_ok-new.field-0 in
    record {
      frames = frames_more c.args.sites sends n s within is c.loop-packet.frames.items c.push.new.self.items frame c.in_ok-push.ensures.items c.in_ok-new.ensures.frame c.loop-packet.invariant.frames;
      spelled = spelled_more c.args.sites sends n s within is frame c.in_ok-new.ensures.frame c.in_ok-new.ensures.framed c.loop-packet.invariant.spelled;
    }
