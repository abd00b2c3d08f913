use Rattle.std.proofs.Common.{◌≡◌, ◌<◌, ◌+◌, ◌^◌, max, List, length, refl, ap, sym, ◌∙◌, subst, arith, Option, Some, None, Bor}
use Rattle.std.specs.Prelude.{option_map}
use Rattle.walter_lane.specs.Lanes.{Receiving}
use Rattle.walter_lane.specs.declared.posted.Posted.{Posted}
use Rattle.walter_outbox.specs.Lanes.{IsArrival}
use Rattle.walter_rules.specs.declared.event.Event.{Event}
use Rattle.walter_rules.specs.declared.event.Event.TheVariants as event
use Rattle.walter_rules.specs.declared.event.Input.TheVariants as input
use Rattle.walter_site.specs.Members.{IsSizedPacket}
use Rattle.walter_cell.specs.declared.answers.Moved.TheVariants as moved
use Rattle.walter_cell.specs.Cells.{CellValue, Proceeds, MovesTo, arrival, stamp_of_arrival, IsMissing}
use Rattle.walter_cell.specs.Entries.{IsSpent, HasPlace}
use Rattle.std.proofs.lemmas.Bool.Decides.{nat_tests}
use Rattle.walter_cell.specs.Nodes.{NodeValue, Takes, clock_in}
use Rattle.walter_cell.proofs.Meeting.{arrived_as}
use Rattle.walter_cell.proofs.Taken.{ready_takes, grows_taken, cell_room, proceeds_room, cell_alone, proceeds_alone}
use Rattle.walter_cell.proofs.cell.Cell.deliver.Goals as goal

pub invariant_of-self : goal.invariant_of-self
invariant_of-self g c = cell_room g.D.Disk _ c.make_ready.new.self c.in_err-make_ready.ensures.same c.self.invariant

pub invariant_of-self-in_err-packet : goal.invariant_of-self-in_err-packet
invariant_of-self-in_err-packet g c = cell_room g.D.Disk _ c.make_ready.new.self c.in_ok-make_ready.ensures.same c.self.invariant

pub returns-in_err-make_ready-clause-proceeds : goal.returns-in_err-make_ready-clause-proceeds
returns-in_err-make_ready-clause-proceeds g c =
    let old : CellValue g.row.D.Denot = record { node = c.self.inside.node; ins = c.self.inside.ins.items; lines = c.self.inside.lines.items } in
    subst (λ (v : CellValue g.row.D.Denot). Proceeds g.D.Disk v (record { node = c.make_ready.new.self; ins = old.ins; lines = old.lines })) c.self.view_is
    (proceeds_room g.D.Disk old c.make_ready.new.self c.in_err-make_ready.ensures.same)

pub returns-in_err-packet-clause-proceeds : goal.returns-in_err-packet-clause-proceeds
returns-in_err-packet-clause-proceeds g c =
    let old : CellValue g.row.D.Denot = record { node = c.self.inside.node; ins = c.self.inside.ins.items; lines = c.self.inside.lines.items } in
    subst (λ (v : CellValue g.row.D.Denot). Proceeds g.D.Disk v (record { node = c.make_ready.new.self; ins = old.ins; lines = old.lines })) c.self.view_is
    (proceeds_room g.D.Disk old c.make_ready.new.self c.in_ok-make_ready.ensures.same)

pub returns-in_default-clause-moves : goal.returns-in_default-clause-moves
returns-in_default-clause-moves g c =
    let old : CellValue g.row.D.Denot = record { node = c.self.inside.node; ins = c.self.inside.ins.items; lines = c.self.inside.lines.items } in
    let read : option_map (λ (b : Bor Posted). b.now) c.arrival-post.result ≡ arrival old.ins c.args.from c.args.number =
    c.arrival-post.ensures ∙ ap (λ (ins : List Receiving). arrival ins c.args.from c.args.number) c.deref.ensures.value in
    let stamp : max (clock_in old.node) c.put_stamp.result + 1 ≡ stamp_of_arrival (clock_in old.node) (arrival old.ins c.args.from c.args.number) =
    c.put_stamp.ensures (clock_in old.node) ∙ ap (λ (p : Option Posted). stamp_of_arrival (clock_in old.node) p) read in (
      subst (λ (v : CellValue g.row.D.Denot). IsSpent (stamp_of_arrival (clock_in v.node) (arrival v.ins c.args.from c.args.number)) v.node.trail) c.self.view_is
          (subst (λ n. IsSpent n old.node.trail) stamp c.in_default.ensures.none),
      refl,
    )

-- an option that is none of those that there are is none
none_left : {X : Type 0} (o : Option X) → ((x : X) → o ≡ Some x → ⊥) → o ≡ None
none_left None never = refl
none_left (Some x) never = absurd (never x refl)

pub returns-in_default-post-clause-moves : goal.returns-in_default-post-clause-moves
returns-in_default-post-clause-moves g c =
    let old : CellValue g.row.D.Denot = record { node = c.self.inside.node; ins = c.self.inside.ins.items; lines = c.self.inside.lines.items } in
    let read : option_map (λ (b : Bor Posted). b.now) c.arrival-post.result ≡ arrival old.ins c.args.from c.args.number =
    c.arrival-post.ensures ∙ ap (λ (ins : List Receiving). arrival ins c.args.from c.args.number) c.deref.ensures.value in
    let stamp : max (clock_in old.node) c.put_stamp.result + 1 ≡ stamp_of_arrival (clock_in old.node) (arrival old.ins c.args.from c.args.number) =
    c.put_stamp.ensures (clock_in old.node) ∙ ap (λ (p : Option Posted). stamp_of_arrival (clock_in old.node) p) read in
    let some = c.in-Some.ensures.some in
    let place : HasPlace (stamp_of_arrival (clock_in old.node) (arrival old.ins c.args.from c.args.number)) old.node.trail =
    (some.1.0, subst (λ n. n < 2 ^ 62) (some.0 ∙ stamp) some.1.1) in
    let none : arrival old.ins c.args.from c.args.number ≡ None = sym read ∙ ap (λ o. option_map (λ (b : Bor Posted). b.now) o) (none_left c.arrival-post.result c.in_default-post.not-Some) in (
      subst (λ (v : CellValue g.row.D.Denot). HasPlace (stamp_of_arrival (clock_in v.node) (arrival v.ins c.args.from c.args.number)) v.node.trail) c.self.view_is place,
      subst (λ (v : CellValue g.row.D.Denot). IsMissing (length v.ins) (arrival v.ins c.args.from c.args.number)) c.self.view_is
          (subst (λ (p : Option Posted). IsMissing (length old.ins) p) (sym none) tt),
      refl,
    )

pub returns-then-from-len-clause-moves : goal.returns-then-from-len-clause-moves
returns-then-from-len-clause-moves g c =
    let old : CellValue g.row.D.Denot = record { node = c.self.inside.node; ins = c.self.inside.ins.items; lines = c.self.inside.lines.items } in
    let read : option_map (λ (b : Bor Posted). b.now) c.arrival-post.result ≡ arrival old.ins c.args.from c.args.number =
    c.arrival-post.ensures ∙ ap (λ (ins : List Receiving). arrival ins c.args.from c.args.number) c.deref.ensures.value in
    let stamp : max (clock_in old.node) c.put_stamp.result + 1 ≡ stamp_of_arrival (clock_in old.node) (arrival old.ins c.args.from c.args.number) =
    c.put_stamp.ensures (clock_in old.node) ∙ ap (λ (p : Option Posted). stamp_of_arrival (clock_in old.node) p) read in
    let some = c.in-Some.ensures.some in
    let place : HasPlace (stamp_of_arrival (clock_in old.node) (arrival old.ins c.args.from c.args.number)) old.node.trail =
    (some.1.0, subst (λ n. n < 2 ^ 62) (some.0 ∙ stamp) some.1.1) in
    let post : Posted = c.in-Some-post.post.now in
    let at : arrival old.ins c.args.from c.args.number ≡ Some post = sym read ∙ ap (λ o. option_map (λ (b : Bor Posted). b.now) o) c.in-Some-post.is in (
      subst (λ (v : CellValue g.row.D.Denot). HasPlace (stamp_of_arrival (clock_in v.node) (arrival v.ins c.args.from c.args.number)) v.node.trail) c.self.view_is place,
      subst (λ (v : CellValue g.row.D.Denot). IsMissing (length v.ins) (arrival v.ins c.args.from c.args.number)) c.self.view_is
          (subst (λ (p : Option Posted). IsMissing (length old.ins) p) (sym at) (λ same. let long = c.self.inside.ins.ok.0 in grind (arith, nat_tests))),
      refl,
    )

pub take-requires-clause-sized : goal.take-requires-clause-sized
take-requires-clause-sized g c =
    let framed = c.in_ok-packet.ensures.framed in
    let spelled = framed.spelled in
    let sites : c.in-Some-post.post.now.framed.sites ≡ c.make_ready.new.self.catalog.sites =
    (let long = c.self.inside.ins.ok.0 in let same : c.in-Some-post.post.now.framed.sites ≡ length c.self.inside.ins.items = grind (arith, nat_tests) in same)
    ∙ (c.self.invariant.ins ∙ sym (ap (λ (n : NodeValue g.row.D.Denot). n.catalog.sites) c.in_ok-make_ready.ensures.same.same)) in
    subst (λ n. IsSizedPacket n c.in_ok-packet.packet) sites (record { sizes = spelled.sizes; among = spelled.among })

pub invariant_of-self-2 : goal.invariant_of-self-2
invariant_of-self-2 g c =
    let old : CellValue g.row.D.Denot = record { node = c.self.inside.node; ins = c.self.inside.ins.items; lines = c.self.inside.lines.items } in
    let read : option_map (λ (b : Bor Posted). b.now) c.arrival-post.result ≡ arrival old.ins c.args.from c.args.number =
    c.arrival-post.ensures ∙ ap (λ (ins : List Receiving). arrival ins c.args.from c.args.number) c.deref.ensures.value in
    let stamp : max (clock_in old.node) c.put_stamp.result + 1 ≡ stamp_of_arrival (clock_in old.node) (arrival old.ins c.args.from c.args.number) =
    c.put_stamp.ensures (clock_in old.node) ∙ ap (λ (p : Option Posted). stamp_of_arrival (clock_in old.node) p) read in
    let post : Posted = c.in-Some-post.post.now in
    let at : arrival old.ins c.args.from c.args.number ≡ Some post = sym read ∙ ap (λ o. option_map (λ (b : Bor Posted). b.now) o) c.in-Some-post.is in
    let ev : Event = event.Given (input.Deliver c.args.from c.args.number c.in_ok-packet.packet) in
    let takes : Takes g.D.Disk c.in-Some.stamp ev old.node c.take.new.self =
    ready_takes g.D.Disk c.in-Some.stamp ev old.node c.make_ready.new.self c.take.new.self c.in_ok-make_ready.ensures.same c.take.ensures in
    let there = arrived_as old.ins c.args.from c.args.number post at in
    let next : IsArrival old.node.site old.ins c.args.from c.args.number c.in_ok-packet.packet (clock_in old.node) c.in-Some.stamp = record {
      apart = rw (← c.self.view_is) at c.requires.apart;
      before = there.0;
      number_is = there.1;
      post = post;
      there = there.2;
      framed = c.in_ok-packet.ensures.framed;
      next = c.in-Some.ensures.some.0 ∙ (stamp ∙ ap (λ (p : Option Posted). stamp_of_arrival (clock_in old.node) p) at);
    } in
    cell_alone g.D.Disk old c.take.new.self c.in-Some.stamp ev takes tt next c.self.invariant

pub returns-clause-proceeds : goal.returns-clause-proceeds
returns-clause-proceeds g c =
    let old : CellValue g.row.D.Denot = record { node = c.self.inside.node; ins = c.self.inside.ins.items; lines = c.self.inside.lines.items } in
    let ev : Event = event.Given (input.Deliver c.args.from c.args.number c.in_ok-packet.packet) in
    let takes : Takes g.D.Disk c.in-Some.stamp ev old.node c.take.new.self =
    ready_takes g.D.Disk c.in-Some.stamp ev old.node c.make_ready.new.self c.take.new.self c.in_ok-make_ready.ensures.same c.take.ensures in
    subst (λ (v : CellValue g.row.D.Denot). Proceeds g.D.Disk v (record { node = c.take.new.self; ins = old.ins; lines = old.lines })) c.self.view_is
    (proceeds_alone g.D.Disk old c.take.new.self c.in-Some.stamp ev takes tt)

pub returns-clause-moves : goal.returns-clause-moves
returns-clause-moves g c =
    let old : CellValue g.row.D.Denot = record { node = c.self.inside.node; ins = c.self.inside.ins.items; lines = c.self.inside.lines.items } in
    let read : option_map (λ (b : Bor Posted). b.now) c.arrival-post.result ≡ arrival old.ins c.args.from c.args.number =
    c.arrival-post.ensures ∙ ap (λ (ins : List Receiving). arrival ins c.args.from c.args.number) c.deref.ensures.value in
    let stamp : max (clock_in old.node) c.put_stamp.result + 1 ≡ stamp_of_arrival (clock_in old.node) (arrival old.ins c.args.from c.args.number) =
    c.put_stamp.ensures (clock_in old.node) ∙ ap (λ (p : Option Posted). stamp_of_arrival (clock_in old.node) p) read in
    let some = c.in-Some.ensures.some in
    let place : HasPlace (stamp_of_arrival (clock_in old.node) (arrival old.ins c.args.from c.args.number)) old.node.trail =
    (some.1.0, subst (λ n. n < 2 ^ 62) (some.0 ∙ stamp) some.1.1) in
    let post : Posted = c.in-Some-post.post.now in
    let at : arrival old.ins c.args.from c.args.number ≡ Some post = sym read ∙ ap (λ o. option_map (λ (b : Bor Posted). b.now) o) c.in-Some-post.is in
    let ev : Event = event.Given (input.Deliver c.args.from c.args.number c.in_ok-packet.packet) in
    let takes : Takes g.D.Disk c.in-Some.stamp ev old.node c.take.new.self =
    ready_takes g.D.Disk c.in-Some.stamp ev old.node c.make_ready.new.self c.take.new.self c.in_ok-make_ready.ensures.same c.take.ensures in
    subst (λ (v : CellValue g.row.D.Denot). MovesTo c.args.from c.args.number (arrival v.ins c.args.from c.args.number) (length v.ins) (clock_in v.node) v.node.trail c.take.new.self.trail moved.Did) c.self.view_is
    (place, (post, c.in_ok-packet.packet, at, c.in_ok-packet.ensures.framed, grows_taken old c.take.new.self old.lines g.D.Disk c.in-Some.stamp ev takes))
