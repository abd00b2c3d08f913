use Rattle.std.proofs.Common.{◌≡◌, ◌<◌, ◌≤◌, false, Option, Some, None, sym, ◌∙◌, subst}
use Rattle.walter_base.specs.declared.catalog.Catalog.{Catalog}
use Rattle.walter_base.specs.declared.message.Record.{Record}
use Rattle.walter_base.specs.declared.names.SiteId.{SiteId}
use Rattle.walter_base.specs.Vectors.{most_sites}
use Rattle.walter_machine.specs.Machines.{catalog_in, site_in, is_up}
use Rattle.walter_rules.specs.Standing.{settled}
use Rattle.walter_world.specs.declared.replaying.Recovery.{Recovery}
use Rattle.walter_world.specs.declared.seat.Seat.{Seat}
use Rattle.walter_world.specs.Comings.{found_by}
use Rattle.walter_world.specs.Records.{IsTold}
use Rattle.walter_world.specs.Seats.{IsSeat, standing_of}
use Rattle.walter_world.proofs.Coming.{up_is}
use Rattle.walter_world.proofs.Recoveries.{flight_can, found_flying, found_none, stands_told, stands_can}
use Rattle.walter_world.proofs.seat.Seat.told.Goals as goal

-- what is found is this
abbrev IsToldWith : Seat → Recovery → Option Record → Type 0
IsToldWith seat told found =
    IsTold (catalog_in seat.machine) (site_in seat.machine)
    (settled (catalog_in seat.machine) (site_in seat.machine) found (standing_of seat)).records told

-- it is down
rests : (seat : Seat) → IsSeat (catalog_in seat.machine) (site_in seat.machine) seat → is_up seat.machine ≡ false
    → (standing_of seat).up ≡ false
rests seat is down = up_is (standing_of seat) seat.machine.site is.stands.state ∙ down

pub told_by-requires-clause-here : goal.told_by-requires-clause-here
told_by-requires-clause-here c =
    subst (λ (k : Catalog). c.id.result.0 < k.sites) (sym c.catalog.ensures)
    (subst (λ (j : SiteId). j.0 < (catalog_in c.args.self.now.machine).sites) (sym c.id.ensures) c.args.self.now.machine.here)

pub told_by-requires-clause-most : goal.told_by-requires-clause-most
told_by-requires-clause-most c =
    subst (λ (k : Catalog). k.sites ≤ most_sites) (sym c.catalog.ensures) c.args.self.now.machine.most

pub told_by-requires-clause-fewer : goal.told_by-requires-clause-fewer
told_by-requires-clause-fewer c =
    subst (λ (k : Catalog). k.tolerated < k.sites) (sym c.catalog.ensures) c.args.self.now.machine.fewer

pub told_by-requires-clause-can : goal.told_by-requires-clause-can
told_by-requires-clause-can c =
    stands_can c.args.self.now c.catalog.result.now c.id.result c.deref.result.now c.catalog.ensures c.id.ensures
    c.deref.ensures.value c.requires.seat.stands.told

pub replay-requires : goal.replay-requires
replay-requires c =
    let seat = c.args.self.now in
    let S = standing_of seat in (
      catalog_in seat.machine,
      site_in seat.machine,
      S.records,
      stands_told seat c.catalog.result.now c.id.result c.deref.result.now c.in_ok-told.told c.catalog.ensures c.id.ensures
          c.deref.ensures.value c.in_ok-told.ensures,
      flight_can (catalog_in seat.machine) (site_in seat.machine) S (rests seat c.requires.seat c.requires.down)
          c.requires.seat.stands.told c.in-Some.rec.now (sym c.requires.seat.stands.flight ∙ c.in-Some.ensures.some),
    )

pub returns-then-not-keeps : goal.returns-then-not-keeps
returns-then-not-keeps c =
    let seat = c.args.self.now in
    subst (IsToldWith seat c.in_ok-told.told) (sym (found_none c.args.keeps (standing_of seat) c.if-not-keeps.true))
    (stands_told seat c.catalog.result.now c.id.result c.deref.result.now c.in_ok-told.told c.catalog.ensures c.id.ensures
    c.deref.ensures.value c.in_ok-told.ensures)

pub returns-in_default : goal.returns-in_default
returns-in_default c =
    let seat = c.args.self.now in
    let S = standing_of seat in
    let none : found_by c.args.keeps S ≡ None =
    found_flying c.args.keeps S c.if-not-keeps.false (rests seat c.requires.seat c.requires.down)
    ∙ (sym c.requires.seat.stands.flight ∙ c.in_default.ensures.none) in
    subst (IsToldWith seat c.in_ok-told.told) (sym none)
    (stands_told seat c.catalog.result.now c.id.result c.deref.result.now c.in_ok-told.told c.catalog.ensures c.id.ensures
    c.deref.ensures.value c.in_ok-told.ensures)

pub returns : goal.returns
returns c =
    let seat = c.args.self.now in
    let S = standing_of seat in
    let found : found_by c.args.keeps S ≡ Some c.in-Some.rec.now =
    found_flying c.args.keeps S c.if-not-keeps.false (rests seat c.requires.seat c.requires.down)
    ∙ (sym c.requires.seat.stands.flight ∙ c.in-Some.ensures.some) in
    subst (IsToldWith seat c.replay.new.told) (sym found)
    (c.in_ok-replay.ensures (catalog_in seat.machine) (site_in seat.machine) S.records
    (stands_told seat c.catalog.result.now c.id.result c.deref.result.now c.in_ok-told.told c.catalog.ensures c.id.ensures
    c.deref.ensures.value c.in_ok-told.ensures))
