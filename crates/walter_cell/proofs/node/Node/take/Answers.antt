use Rattle.std.proofs.Common.{◌≡◌, ◌≤◌, ◌+◌, ◌-◌, ℕ, vec_capacity, vec_len, ◌++◌, List, [], ◌∷◌, length, set, take, drop, reverse, refl, ap, sym, ◌∙◌, subst, arith, inr}
use Rattle.std.proofs.lemmas.List.{length-map, length-set}
use Rattle.walter_engine.specs.Effects.{HasCome}
use Rattle.walter_engine.specs.Engines.{catalog_in, site_in, layout_in, Stands}
use Rattle.walter_engine.specs.declared.engine.Engine.{Engine}
use Rattle.walter_lane.specs.Lanes.{Sending}
use Rattle.walter_machine.proofs.Sizes.{only_alone}
use Rattle.walter_machine.specs.Comings.{IsOutcomeAlone}
use Rattle.walter_machine.specs.States.{IsSizedEvent}
use Rattle.walter_outbox.specs.Lanes.{out_rings, HavePutMore}
use Rattle.walter_outbox.proofs.Grown.{with_sends}
use Rattle.walter_rules.specs.declared.entry.Came.{Came}
use Rattle.walter_rules.specs.declared.entry.Entry.{Entry}
use Rattle.walter_rules.specs.declared.event.Event.{Event}
use Rattle.walter_rules.specs.declared.outcome.Outcome.TheVariants.{Passed}
use Rattle.walter_rules.specs.Sending.{Send}
use Rattle.walter_rules.specs.Standing.{Standing, settled}
use Rattle.walter_rules.specs.Trails.{Comes, standing, IsNextStamp}
use Rattle.walter_rules.proofs.Staying.{later_next}
use Rattle.walter_cell.specs.Nodes.{NodeParts, NodeValue, entry_by, IsWhole, Takes, seen}
use Rattle.walter_cell.proofs.Ages.{comes_young}
use Rattle.walter_cell.proofs.DiskCalls.{calls_at}
use Rattle.walter_cell.proofs.Nodes.{all_back, last_pushed, last_set, node_more, known_more, drops_more}
use Rattle.walter_cell.proofs.Wholes.{whole_of, told_before, takes_of}
use Rattle.walter_cell.proofs.node.Node.take.Given.{Over}
use Rattle.walter_cell.proofs.node.Node.take.Goals as goal

long_rings : (old new : List Sending) → out_rings new ≡ out_rings old → length new ≡ length old
long_rings old new rings = sym (length-map new (λ (s : Sending). s.ring)) ∙ (ap length rings ∙ length-map old (λ (s : Sending). s.ring))

module _ (g : Over) (c : goal.After-self-5-1 g) where
  abbrev D : Type 0
  D = g.row.D.Denot

  abbrev parts : (engine : Engine D g.D.Disk) (outs : List Sending) → NodeParts D g.D.Disk
  parts engine outs = record { engine = engine; trail = c.self.inside.entries.items; clock = c.self.inside.clock; outs = outs }

  -- the site as its parts were lent
  abbrev old : NodeParts D g.D.Disk
  old = parts c.deref_mut.result.now c.deref_mut-2.result.now

  -- the entry, as it came to the trail, and what came of its event then
  abbrev entry : Entry
  entry = c.in-Some.entry.now

  abbrev came : Came
  came = c.take-frames.new.came

  abbrev sends : List Send
  sends = c.put_out-entry.new.sends

  abbrev new : NodeParts D g.D.Disk
  new = record {
    engine = c.take-frames.new.self;
    trail = set c.push_reserved.new.self.items (vec_len c.push_reserved.new.self - 1)
        (record entry { came = with_sends sends c.put_out-entry.result came });
    clock = c.args.stamp;
    outs = c.put_out-entry.new.outs;
  }

  whole : IsWhole g.D.Disk old
  whole =
      subst (λ (e : Engine D g.D.Disk). IsWhole g.D.Disk (parts e c.deref_mut-2.result.now)) (sym c.deref_mut.ensures.value)
      (subst (λ (os : List Sending). IsWhole g.D.Disk (parts c.self.inside.engine.value os)) (sym c.deref_mut-2.ensures.value)
      c.self.invariant)

  entry_is : entry ≡ entry_by c.args.stamp c.args.event c.only-came.result
  entry_is = last_pushed c.self.inside.entries.items c.push_reserved.new.self.items _ entry _ c.push_reserved.ensures.items
      c.push_reserved.new.self.ok.0 c.in-Some.ensures.value

  event_is : entry.event ≡ c.args.event
  event_is = ap (λ (e : Entry). e.event) entry_is

  trail_is : new.trail ≡ old.trail
      ++ entry_by c.args.stamp c.args.event (with_sends sends c.put_out-entry.result came) ∷ []
  trail_is = last_set c.self.inside.entries.items c.push_reserved.new.self.items _ _ _ c.push_reserved.ensures.items
      c.push_reserved.new.self.ok.0
      ∙ ap (λ (e : Entry). old.trail ++ record e { came = with_sends sends c.put_out-entry.result came } ∷ []) entry_is

  abbrev S : Standing
  S = standing (catalog_in old.engine) (site_in old.engine) (reverse old.trail)

  next : IsNextStamp c.args.event old.clock c.args.stamp
  next = subst (λ n. IsNextStamp c.args.event n c.args.stamp) (sym whole.is.last) (rw (← c.self.view_is) at c.requires.next)

  put : HavePutMore (catalog_in old.engine).sites c.args.stamp old.outs new.outs sends
  put = c.put_out-entry.ensures.lanes (catalog_in old.engine).sites c.take-frames.ensures.framed

  has : Stands old.engine S
      → HasCome (catalog_in old.engine) (layout_in old.engine) (site_in old.engine) S c.args.event came c.take-frames.result.refused new.engine
  has stands = subst (λ (e : Event). HasCome (catalog_in old.engine) (layout_in old.engine) (site_in old.engine) S e came
      c.take-frames.result.refused new.engine) event_is (c.take-frames.ensures.comes S stands)

  comes : Stands old.engine S → Comes (catalog_in old.engine) (layout_in old.engine) (site_in old.engine)
      (settled (catalog_in old.engine) (site_in old.engine) came.kept S) c.args.event came
  comes stands =
      comes_young (layout_in old.engine) old.engine new.engine old.trail c.args.event came c.take-frames.result.refused
      (rw (← c.self.view_is) at c.requires.place.0) stands (has stands) c.take-frames.ensures.why

  pub whole_now : IsWhole g.D.Disk new
  whole_now =
      whole_of (catalog_in old.engine) (layout_in old.engine) (site_in old.engine) new
      (node_more (catalog_in old.engine) (layout_in old.engine) (site_in old.engine) old new c.args.stamp c.args.event came sends
      c.put_out-entry.result trail_is c.put_out-entry.ensures.out whole.is refl c.take-frames.ensures.engine
      c.take-frames.ensures.sized put c.take-frames.ensures.faults (later_next c.args.event old.clock c.args.stamp next) c.requires.place.1)
      (λ told.
      let known = whole.known (told_before old.engine new.engine c.take-frames.ensures.tells told) in
      let come = has known.stands in
      known_more (catalog_in old.engine) (layout_in old.engine) (site_in old.engine) old new c.args.stamp c.args.event came sends
      c.put_out-entry.result trail_is c.put_out-entry.ensures.out whole.is
      c.take-frames.ensures.none_dropped come.found (comes known.stands) come.stands next known.right)

  pub takes : (before after : ℕ) → length old.trail + before ≤ length new.trail + after
      → Takes g.D.Disk c.args.stamp c.args.event (seen before old) (seen after new)
  takes before after places =
      takes_of old new before after c.args.stamp c.args.event (with_sends sends c.put_out-entry.result came)
      trail_is places c.take-frames.ensures.sized.outcome c.take-frames.ensures.engine c.take-frames.ensures.tells
      c.take-frames.ensures.arms put.rings put.same_mets
      (λ told. inr (
        entry_by c.args.stamp c.args.event (with_sends sends c.put_out-entry.result came),
        trail_is,
        calls_at old.engine new.engine S c.args.event came sends c.put_out-entry.result (whole.known told).stands
            (λ rests. c.take-frames.ensures.device (λ down is. rests down (sym event_is ∙ is)))
            (λ down is. c.take-frames.ensures.loads down (event_is ∙ is)),
      ))
      (λ told. drops_more (catalog_in old.engine) (layout_in old.engine) (site_in old.engine) old new c.args.stamp c.args.event came sends
      c.put_out-entry.result trail_is c.put_out-entry.ensures.out whole.is
      c.take-frames.ensures.none_dropped (comes (whole.known told).stands))

  -- what contracts see of the site as its parts were lent
  seen_before : (room : ℕ) → seen room old ≡ seen room (parts c.self.inside.engine.value c.self.inside.outs.items)
  seen_before room =
      ap (λ (e : Engine D g.D.Disk). seen room (parts e old.outs)) c.deref_mut.ensures.value
      ∙ ap (λ (os : List Sending). seen room (parts c.self.inside.engine.value os)) c.deref_mut-2.ensures.value

  -- the lanes' ends that were lent whole come back changed
  pub back_is : new ≡ record new { outs = take c.self.inside.outs.len (new.outs ++ drop (length new.outs) c.self.inside.outs.items) }
  back_is = ap (λ (os : List Sending). record new { outs = os })
      (sym (all_back c.self.inside.outs.len new.outs c.self.inside.outs.items c.self.inside.outs.ok.0
      (long_rings old.outs new.outs put.rings ∙ ap length c.deref_mut-2.ensures.value)))

-- the engine is asked over the entry as it came to the trail, which is an outcome alone
module _ (g : Over) (c : goal.After-take-arg-2-1 g) where
  came_to : c.in-Some.entry.now ≡ entry_by c.args.stamp c.args.event c.only-came.result
  came_to = last_pushed c.self.inside.entries.items c.push_reserved.new.self.items _ c.in-Some.entry.now _
      c.push_reserved.ensures.items c.push_reserved.new.self.ok.0 c.in-Some.ensures.value

  pub alone_then : IsOutcomeAlone c.in-Some.entry.now.came
  alone_then = only_alone c.in-Some.entry.now.came Passed (ap (λ (e : Entry). e.came) came_to ∙ c.only-came.ensures)

  pub sized_then : IsSizedEvent (catalog_in c.deref_mut.result.now).sites c.in-Some.entry.now.event
  sized_then =
      subst (λ (e : Event). IsSizedEvent (catalog_in c.deref_mut.result.now).sites e) (sym (ap (λ (e : Entry). e.event) came_to))
      (subst (λ (e : Engine g.row.D.Denot g.D.Disk). IsSizedEvent (catalog_in e).sites c.args.event)
      (sym c.deref_mut.ensures.value) (rw (← c.self.view_is) at c.requires.sized))

pub take-frames-requires-clause-alone : goal.take-frames-requires-clause-alone
take-frames-requires-clause-alone g c = alone_then g c

pub take-frames-requires-clause-sized : goal.take-frames-requires-clause-sized
take-frames-requires-clause-sized g c = sized_then g c

pub invariant_of-self : goal.invariant_of-self
invariant_of-self g c = subst (λ (n : NodeParts g.row.D.Denot g.D.Disk). IsWhole g.D.Disk n) (back_is g c) (whole_now g c)

pub returns : goal.returns
returns g c =
    let inside = c.self.inside in
    let before = vec_capacity inside.entries - vec_len inside.entries in
    let after = vec_capacity c.push_reserved.new.self - vec_len c.push_reserved.new.self in
    let ready = (rw (← c.self.view_is) at c.requires.ready) in
    let places : length inside.entries.items + before ≤ length (new g c).trail + after =
    omega (
      arith,
      length-set c.push_reserved.new.self.items (vec_len c.push_reserved.new.self - 1)
          (record (entry g c) { came = with_sends (sends g c) c.put_out-entry.result (came g c) }),
      inside.entries.ok.0,
      c.push_reserved.new.self.ok.0,
      c.push_reserved.ensures.len,
      c.push_reserved.ensures.capacity,
      ready,
    ) in
    subst (λ (n : NodeParts g.row.D.Denot g.D.Disk). Takes g.D.Disk c.args.stamp c.args.event c.args.self.now (seen after n)) (back_is g c)
    (subst (λ (v : NodeValue g.row.D.Denot). Takes g.D.Disk c.args.stamp c.args.event v (seen after (new g c)))
    (seen_before g c before ∙ c.self.view_is) (takes g c before after places))
