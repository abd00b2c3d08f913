use Rattle.std.proofs.Common.{◌≡◌, ◌⊎◌, ◌+◌, ◌++◌, ◌∷◌, [], ℕ, List, max, set, ap, sym, ◌∙◌, subst, arith}
use Rattle.std.specs.Prelude.{OnOk}
use Rattle.std.proofs.lemmas.List.{length-set}
use Rattle.walter_base.specs.declared.catalog.Catalog.{Catalog}
use Rattle.walter_base.specs.declared.format.Format.{Format}
use Rattle.walter_base.specs.declared.names.SiteId.{SiteId}
use Rattle.walter_rules.specs.declared.entry.Entry.{Entry}
use Rattle.walter_world.specs.declared.seat.Seat.{Seat}
use Rattle.walter_world.specs.Comings.{entry_of}
use Rattle.walter_world.specs.Seats.{IsSeat}
use Rattle.walter_world.specs.Worlds.{WorldValue, AreEarly, IsWorld, KeepPromises, StepsTo, trails_of}
use Rattle.walter_world.proofs.Stepped.{IsStepping, world_promises, more_or_same, on_ok, on_err, stepping, at_site, can_take, young_here, put_below, steps_on, same_trails, world_on, later_on}
use Rattle.walter_world.proofs.world.World.step.Goals.{After-index_mut-seat, After-take}
use Rattle.walter_world.proofs.world.World.step.Goals as goal

abbrev value : Format → Catalog → List (List Entry) → WorldValue
value format catalog trails = record { catalog = catalog; format = format; trails = trails }

pub returns-in_err-event-clause-promises : goal.returns-in_err-event-clause-promises
returns-in_err-event-clause-promises c =
    subst (λ (v : WorldValue). KeepPromises v.format v.catalog v.trails) c.self.view_is
    (world_promises c.self.inside.format c.self.inside.catalog c.self.inside.seats.items c.self.invariant.0)

pub returns-in_default-clause-promises : goal.returns-in_default-clause-promises
returns-in_default-clause-promises c =
    subst (λ (v : WorldValue). KeepPromises v.format v.catalog v.trails) c.self.view_is
    (world_promises c.self.inside.format c.self.inside.catalog c.self.inside.seats.items c.self.invariant.0)

-- ---- the event comes to a site

-- its seat, before it takes the event
stepped : (c : After-index_mut-seat)
    → IsStepping c.self.inside.format c.self.inside.catalog c.self.inside.seats.items c.args.event c.in-Some.field-0
    c.index_mut-seat.result.now
stepped c =
    stepping c.args.self.now c.self.inside.format c.self.inside.catalog c.self.inside.seats.items c.deref.result.now
    c.args.event
    c.in_ok-event.field-0 c.in-Some.field-0 c.from.result c.index_mut-seat.result.now c.self.invariant.0 c.self.view_is c.requires
    c.in_ok-event.ensures c.deref.ensures.value c.in-Some.is c.from.ensures c.index_mut-seat.ensures.value

pub overflow_add-stamp : goal.overflow_add-stamp
overflow_add-stamp c =
    let S = stepped (goal.at.overflow_add-stamp c).After-index_mut-seat in
    let put = put_below _ _ _ _ _ _ S 4294967295 S.can.early in
    let last = young_here _ _ _ _ _ _ S in
    let clock = c.clock.ensures in
    let most = c.max-stamp.ensures in
    omega (arith, put, last, clock, most)

pub take-requires : goal.take-requires
take-requires c = can_take _ _ _ _ _ _ (stepped (goal.at.take-requires c).After-index_mut-seat)

-- ---- the site takes it, or wants memory

module _ (c : After-take) where
  abbrev format : Format
  format = c.self.inside.format

  abbrev catalog : Catalog
  catalog = c.self.inside.catalog

  abbrev seats : List Seat
  seats = c.self.inside.seats.items

  -- its seat before and after
  abbrev a : Seat
  a = c.index_mut-seat.result.now

  abbrev x : Seat
  x = c.take.new.self

  abbrev Entered : Type 0
  Entered = x.entries.items
      ≡ a.entries.items ++ entry_of format catalog c.args.event.site a.entries.items c.in-Some.field-0.event
      c.in-Some.field-0.put c.in-Some.field-0.keeps c.args.event.fate ∷ []

  S : IsStepping format catalog seats c.args.event c.in-Some.field-0 a
  S = stepping c.args.self.now format catalog seats c.deref.result.now c.args.event c.in_ok-event.field-0
      c.in-Some.field-0
      c.from.result a c.self.invariant.0 c.self.view_is c.requires c.in_ok-event.ensures c.deref.ensures.value c.in-Some.is
      c.from.ensures c.index_mut-seat.ensures.value

  -- it has the entry of the event behind those from before
  entered : OnOk c.take.result Entered
  entered = at_site format catalog seats c.args.event c.in-Some.field-0 a S
      (λ (k : Catalog). λ (i : SiteId). OnOk c.take.result (x.entries.items
      ≡ a.entries.items ++ entry_of format k i a.entries.items c.in-Some.field-0.event c.in-Some.field-0.put
      c.in-Some.field-0.keeps c.args.event.fate ∷ []))
      (c.take.ensures.takes c.in-Some.field-0.put
      (ap (λ (n : ℕ). n + 1) (c.max-stamp.ensures ∙ ap (λ (n : ℕ). max n c.in-Some.field-0.put) c.clock.ensures)))

  -- it stands as its trail says
  seat_then : IsSeat catalog c.args.event.site x
  seat_then = at_site format catalog seats c.args.event c.in-Some.field-0 a S
      (λ (k : Catalog). λ (i : SiteId). IsSeat k i x) c.take.ensures.seat

  left : (x.entries.items ≡ a.entries.items) ⊎ Entered
  left = more_or_same c.take.result a.entries.items x.entries.items
      (entry_of format catalog c.args.event.site a.entries.items c.in-Some.field-0.event c.in-Some.field-0.put
      c.in-Some.field-0.keeps c.args.event.fate) entered c.take.ensures.same

  world : IsWorld format catalog (set seats c.from.result x)
  world = subst (λ (n : ℕ). IsWorld format catalog (set seats n x)) (sym c.from.ensures)
      (world_on format catalog seats c.args.event c.in-Some.field-0 a S x seat_then left)

pub invariant_of-self : goal.invariant_of-self
invariant_of-self c =
    let at = (goal.at.invariant_of-self c).After-take in
    let long = length-set c.self.inside.seats.items c.from.result c.take.new.self in
    let room = c.self.invariant.2 in
    (world at, c.self.invariant.1, omega (arith, long, room))

pub returns-clause-steps : goal.returns-clause-steps
returns-clause-steps c =
    let at = (goal.at.returns-clause-steps c).After-take in
    on_ok c.take.result (entered at) (λ grown.
    subst (λ (v : WorldValue). StepsTo v.format v.catalog v.trails c.args.event
    (trails_of (set (seats at) c.from.result (x at)))) c.self.view_is
    (subst (λ (n : ℕ). StepsTo (format at) (catalog at) (trails_of (seats at)) c.args.event
    (trails_of (set (seats at) n (x at)))) (sym c.from.ensures)
    (steps_on (format at) (catalog at) (seats at) c.args.event c.in-Some.field-0 (a at) (S at) (x at) (seat_then at)
    grown)))

pub returns-clause-same : goal.returns-clause-same
returns-clause-same c =
    let at = (goal.at.returns-clause-same c).After-take in
    on_err c.take.result c.take.ensures.same (λ same.
    ap (λ (t : List (List Entry)). value (format at) (catalog at) t)
    (ap (λ (n : ℕ). trails_of (set (seats at) n (x at))) c.from.ensures
    ∙ same_trails (format at) (catalog at) (seats at) c.args.event c.in-Some.field-0 (a at) (S at) (x at)
    (seat_then at) same) ∙ c.self.view_is)

pub returns-clause-later : goal.returns-clause-later
returns-clause-later c bound before =
    let at = (goal.at.returns-clause-later c).After-take in
    subst (λ (n : ℕ). AreEarly (bound + 1) (trails_of (set (seats at) n (x at)))) (sym c.from.ensures)
    (later_on (format at) (catalog at) (seats at) c.args.event c.in-Some.field-0 (a at) (S at) (x at) (seat_then at)
    (left at) bound (subst (λ (v : WorldValue). AreEarly bound v.trails) (sym c.self.view_is) before))

pub returns-clause-promises : goal.returns-clause-promises
returns-clause-promises c =
    let at = (goal.at.returns-clause-promises c).After-take in
    world_promises (format at) (catalog at) (set (seats at) c.from.result (x at)) (world at)
