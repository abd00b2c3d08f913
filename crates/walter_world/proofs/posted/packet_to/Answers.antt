use Rattle.std.proofs.Common.{Some, ap, sym, ◌∙◌}
use Rattle.walter_base.specs.declared.packet.Packet.{Packet}
use Rattle.walter_world.proofs.Numbering.{put_here, none_put}
use Rattle.walter_world.proofs.posted.packet_to.Goals as goal

pub returns-in-Ok : goal.returns-in-Ok
returns-in-Ok c =
    let l = c.loop-entry in
    let e = c.entry-item.result in
    sym (put_here c.args.to c.args.entries.now l.entry-index e c.loop-entry-test.true c.entry-item.is l.left c.args.number
    (e.stamp, c.in_ok-clone-in-Ok.field-0) l.invariant.some l.invariant.counted
    (c.in-Ok.ensures.found ∙ ap (λ (p : Packet). Some (e.stamp, p)) (sym c.in_ok-clone-in-Ok.ensures.cases)))

pub returns : goal.returns
returns c =
    let l = c.loop-entry in
    sym (none_put c.args.to c.args.entries.now l.entry-index l.left c.args.number l.invariant.some c.loop-entry-test.false
    l.invariant.counted)
