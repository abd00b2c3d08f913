use Rattle.std.proofs.Common.{◌≡◌, ◌<◌, ℕ, List, length, map, refl, ap, sym, ◌∙◌, subst, slice_set, Result, Ok, Err, arith}
use Rattle.std.specs.Prelude.{slice_index_or}
use Rattle.std.specs.Prelude.{OnOk, OnErr}
use Rattle.walter_lane.specs.Lanes.{Sending, Receiving}
use Rattle.walter_outbox.specs.Lanes.{put_to, met_to, mets, arrived_from, posted}
use Rattle.walter_rules.specs.Merges.{put_out_to}
use Rattle.walter_cell.specs.Cells.{CellValue, Keeps, HaveMet}
use Rattle.walter_cell.proofs.Meeting.{on_ok, receiver_met, grows_met, prefix_long, in_rings_met, arrived_met, others_met, was_here, put_by_trail}
use Rattle.walter_cell.proofs.Taken.{cell_lanes, keeps_lanes, keeps_trail}
use Rattle.walter_cell.proofs.cell.Cell.meet.Goals as goal

-- what was so of the lane's two ends is so behind their meeting
met_again : {X E : Type 0} (r : Result X E) (inbound met : Receiving) (outs new : List Sending) (to : ℕ)
    → OnOk r ((met.arrived ≡ put_to outs to) × (met_to new to ≡ length (put_to outs to)))
    → OnErr r ((met ≡ inbound) × (mets new ≡ mets outs))
    → met_to outs to ≡ length inbound.arrived → met_to new to ≡ length met.arrived
met_again (Ok done) inbound met outs new to ok err was = ok.1 ∙ ap length (sym ok.0)
met_again (Err failed) inbound met outs new to ok err was =
    ap (λ (ms : List ℕ). slice_index_or ms to 0) err.1 ∙ (was ∙ ap (λ (r : Receiving). length r.arrived) (sym err.0))

pub invariant_of-self : goal.invariant_of-self
invariant_of-self g c =
    let ins = c.self.inside.ins.items in
    let from : c.args.from.0 < length ins = rw (← c.self.view_is) at c.requires.from in
    let within : c.from.result < length ins = subst (λ n. n < length ins) (sym c.from.ensures) from in
    receiver_met _ c.from.result c.index_mut.result.now c.meet.new.inbound c.index_mut.ensures.value within c.meet.ensures.more c.self.invariant

pub invariant_of-sender : goal.invariant_of-sender
invariant_of-sender g c = cell_lanes _ c.meet.new.self c.meet.ensures.same c.sender.invariant

pub returns-clause-keeps : goal.returns-clause-keeps
returns-clause-keeps g c =
    let old : CellValue g.row.D.Denot = record { node = c.self.inside.node; ins = c.self.inside.ins.items; lines = c.self.inside.lines.items } in
    let sender : CellValue g.row.D.Denot = record { node = c.sender.inside.node; ins = c.sender.inside.ins.items; lines = c.sender.inside.lines.items } in
    let new : CellValue g.row.D.Denot = record old { ins = slice_set old.ins c.from.result c.meet.new.inbound } in (
      subst (λ (v : CellValue g.row.D.Denot). Keeps g.D.Disk v new) c.self.view_is
          (keeps_trail g.D.Disk old new (record { catalog = refl; site = refl; layout = refl; told = refl; rings = refl; places = omega arith })
          (in_rings_met old.ins c.from.result c.index_mut.result.now c.meet.new.inbound c.index_mut.ensures.value c.meet.ensures.rings.1)
          (λ j. prefix_long (arrived_from old.ins j) (arrived_from new.ins j)
          (grows_met old.ins c.from.result c.index_mut.result.now c.meet.new.inbound c.index_mut.ensures.value
          (let from : c.args.from.0 < length old.ins = rw (← c.self.view_is) at c.requires.from in
          subst (λ n. n < length old.ins) (sym c.from.ensures) from) c.meet.ensures.more j)) refl refl),
      subst (λ (v : CellValue g.row.D.Denot). Keeps g.D.Disk v (record sender { node = c.meet.new.self })) c.sender.view_is
          (keeps_lanes sender c.meet.new.self g.D.Disk c.meet.ensures.same c.meet.ensures.rings.0),
    )

pub returns-clause-met : goal.returns-clause-met
returns-clause-met g c =
    let old : CellValue g.row.D.Denot = record { node = c.self.inside.node; ins = c.self.inside.ins.items; lines = c.self.inside.lines.items } in
    let sender : CellValue g.row.D.Denot = record { node = c.sender.inside.node; ins = c.sender.inside.ins.items; lines = c.sender.inside.lines.items } in
    let new : CellValue g.row.D.Denot = record old { ins = slice_set old.ins c.from.result c.meet.new.inbound } in
    let inbound = c.index_mut.result.now in
    let at = c.index_mut.ensures.value in
    let from : c.args.from.0 < length old.ins = rw (← c.self.view_is) at c.requires.from in
    let within : c.from.result < length old.ins = subst (λ n. n < length old.ins) (sym c.from.ensures) from in
    let was : arrived_from old.ins c.args.from.0 ≡ inbound.arrived = ap (λ (n : ℕ). arrived_from old.ins n) (sym c.from.ensures) ∙ was_here old.ins c.from.result inbound inbound at within in
    let now : arrived_from new.ins c.args.from.0 ≡ c.meet.new.inbound.arrived =
    ap (λ (n : ℕ). arrived_from new.ins n) (sym c.from.ensures) ∙ arrived_met old.ins c.from.result inbound c.meet.new.inbound at within in
    subst (λ (v : CellValue g.row.D.Denot). HaveMet c.args.to.0 c.args.from.0 v c.args.sender.now new (record sender { node = c.meet.new.self })) c.self.view_is
    (subst (λ (v : CellValue g.row.D.Denot). HaveMet c.args.to.0 c.args.from.0 old v new (record sender { node = c.meet.new.self })) c.sender.view_is (record {
      node = refl;
      lines = refl;
      other = λ j apart. others_met old.ins c.from.result inbound c.meet.new.inbound at j (λ same. apart (same ∙ c.from.ensures));
      sender_node = c.meet.ensures.same;
      sender_ins = refl;
      sender_lines = refl;
      put = c.meet.ensures.put;
      other_mets = c.meet.ensures.other_mets;
      met = λ before.
          met_again c.meet.result inbound c.meet.new.inbound sender.node.outs c.meet.new.self.outs c.args.to.0 c.meet.ensures.met c.meet.ensures.unmet
          (before ∙ ap length was) ∙ ap length (sym now);
    }))

pub returns-clause-arrives : goal.returns-clause-arrives
returns-clause-arrives g c =
    let old : CellValue g.row.D.Denot = record { node = c.self.inside.node; ins = c.self.inside.ins.items; lines = c.self.inside.lines.items } in
    let sender = c.sender.inside.node in
    let new = slice_set old.ins c.from.result c.meet.new.inbound in
    let inbound = c.index_mut.result.now in
    let at = c.index_mut.ensures.value in
    let from : c.args.from.0 < length old.ins = rw (← c.self.view_is) at c.requires.from in
    let within : c.from.result < length old.ins = subst (λ n. n < length old.ins) (sym c.from.ensures) from in
    let to : c.args.to.0 < length sender.outs = rw (← c.sender.view_is) at c.requires.to in
    let now : arrived_from new c.args.from.0 ≡ c.meet.new.inbound.arrived =
    ap (λ (n : ℕ). arrived_from new n) (sym c.from.ensures) ∙ arrived_met old.ins c.from.result inbound c.meet.new.inbound at within in
    subst (λ (v : CellValue g.row.D.Denot). OnOk c.meet.result (arrived_from new c.args.from.0 ≡ map (posted v.node.catalog.sites) (put_out_to c.args.to v.node.trail))) c.sender.view_is
    (on_ok c.meet.result _ _ (λ both. now ∙ (both.0 ∙ put_by_trail g.D.Disk sender c.args.to c.meet.ensures.sound to)) c.meet.ensures.met)
