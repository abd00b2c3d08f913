use Rattle.std.proofs.Common.{◌≡◌, ◌<◌, ℕ, List, length, ap, sym, ◌∙◌, subst, slice_set}
use Rattle.std.specs.Prelude.{OnOk}
use Rattle.walter_lane.specs.Lanes.{Sending}
use Rattle.walter_outbox.specs.Lanes.{put_to, met_to, out_rings}
use Rattle.walter_cell.specs.Nodes.{NodeValue, IsSound}
use Rattle.walter_cell.proofs.Meeting.{on_ok, put_met, put_here, met_here, met_elsewhere, rings_met, put_kept}
use Rattle.walter_cell.proofs.Wholes.{sound_of, whole_lanes}
use Rattle.walter_cell.proofs.node.Node.meet.Goals as goal

pub invariant_of-self : goal.invariant_of-self
invariant_of-self g c =
    let inside = c.self.inside in
    whole_lanes _ _
    (put_kept _ _ inside.outs.items c.from.result c.index_mut.result.now c.meet.new.outbound c.index_mut.ensures.value
    c.meet.ensures.put c.self.invariant.is.put) c.self.invariant

pub returns-clause-rings : goal.returns-clause-rings
returns-clause-rings g c = (
  rings_met c.self.inside.outs.items c.from.result c.index_mut.result.now c.meet.new.outbound c.index_mut.ensures.value
      c.meet.ensures.rings.0 ∙ ap (λ v. out_rings v.outs) c.self.view_is,
  c.meet.ensures.rings.1,
)

pub returns-clause-put : goal.returns-clause-put
returns-clause-put g c = λ k.
    put_met c.self.inside.outs.items c.from.result c.index_mut.result.now c.meet.new.outbound c.index_mut.ensures.value
    c.meet.ensures.put k ∙ ap (λ v. put_to v.outs k) c.self.view_is

pub returns-clause-met : goal.returns-clause-met
returns-clause-met g c =
    let outs = c.self.inside.outs.items in
    let outbound = c.index_mut.result.now in
    let at = c.index_mut.ensures.value in
    let requires : c.args.to.0 < length outs = rw (← c.self.view_is) at c.requires.to in
    let within : c.from.result < length outs = subst (λ n. n < length outs) (sym c.from.ensures) requires in
    let put : put_to outs c.args.to.0 ≡ outbound.put = ap (λ (n : ℕ). put_to outs n) (sym c.from.ensures) ∙ put_here outs c.from.result outbound outbound at within in
    subst (λ (os : List Sending). OnOk c.meet.result ((c.meet.new.inbound.arrived ≡ put_to os c.args.to.0)
    × (met_to (slice_set outs c.from.result c.meet.new.outbound) c.args.to.0 ≡ length (put_to os c.args.to.0)))) (ap (λ v. v.outs) c.self.view_is)
    (on_ok c.meet.result
    ((c.meet.new.inbound.arrived ≡ outbound.put) × (c.meet.new.outbound.met ≡ length outbound.put))
    ((c.meet.new.inbound.arrived ≡ put_to outs c.args.to.0)
    × (met_to (slice_set outs c.from.result c.meet.new.outbound) c.args.to.0 ≡ length (put_to outs c.args.to.0)))
    (λ both. (
      both.0 ∙ sym put,
      ap (λ (n : ℕ). met_to (slice_set outs c.from.result c.meet.new.outbound) n) (sym c.from.ensures)
          ∙ (met_here outs c.from.result outbound c.meet.new.outbound at within ∙ (both.1 ∙ ap length (sym put))),
    ))
    c.meet.ensures.ok)

pub returns-clause-other_mets : goal.returns-clause-other_mets
returns-clause-other_mets g c = λ k apart.
    met_elsewhere c.self.inside.outs.items c.from.result c.index_mut.result.now c.meet.new.outbound c.index_mut.ensures.value k
    (λ same. apart (same ∙ c.from.ensures)) ∙ ap (λ v. met_to v.outs k) c.self.view_is

pub returns-clause-sound : goal.returns-clause-sound
returns-clause-sound g c =
    subst (λ (v : NodeValue g.row.D.Denot). IsSound g.D.Disk v) c.self.view_is (sound_of _ _ c.self.invariant)
