use Rattle.std.proofs.Common.{◌≡◌, ap, ◌∙◌, refl, Option, arith}
use Rattle.std.specs.Prelude.{is_some}
use Rattle.walter_base.specs.declared.catalog.Catalog.{Catalog}
use Rattle.walter_base.specs.declared.names.SiteId.{SiteId}
use Rattle.walter_machine.specs.Machines.{catalog_in, site_in, records_in}
use Rattle.walter_machine.specs.Readiness.{IsReadyAnyway}
use Rattle.walter_rules.specs.declared.event.Event.TheVariants.{Restart}
use Rattle.walter_rules.specs.Standing.{settled}
use Rattle.walter_tables.specs.declared.tables.Tables.{Tables}
use Rattle.walter_world.specs.Comings.{found_by}
use Rattle.walter_world.specs.Seats.{standing_of}
use Rattle.walter_world.proofs.Coming.{raised, at_raised, tells_young}
use Rattle.walter_world.proofs.Growing.{found_there}
use Rattle.walter_world.proofs.Seated.{seat_still, where_err}
use Rattle.walter_world.proofs.Recoveries.{are_found}
use Rattle.walter_world.proofs.seat.Seat.rise.Goals as goal

pub boot-requires : goal.boot-requires
boot-requires c = tells_young c.args.self.now c.args.keeps c.in_ok-tables.field-0 c.requires.can c.requires.down c.in_ok-tables.ensures

pub returns-in_err-make_room-clause-left : goal.returns-in_err-make_room-clause-left
returns-in_err-make_room-clause-left c =
    let seat = c.args.self.now in
    where_err _ (seat_still (catalog_in seat.machine) (site_in seat.machine) seat
    (record seat { machine = c.make_room.new.self }) c.requires.can.seat_is c.make_room.ensures.same
    c.make_room.ensures.stands refl)

pub settle-kept-requires : goal.settle-kept-requires
settle-kept-requires c = record {
  down = ap is_some c.make_room.ensures.tables ∙ c.requires.down;
  count = c.in_ok-tables.ensures.countable;
}

pub come-came-requires : goal.come-came-requires
come-came-requires c =
    let seat = c.args.self.now in
    let S = standing_of seat in
    record {
      room = λ down. c.settle-kept.ensures.room c.in_ok-make_room.ensures.room;
      countable = λ some.
          let told : records_in c.settle-kept.new.self ≡ c.in_ok-tables.field-0.count = c.settle-kept.ensures.records in
          omega (arith, c.in_ok-tables.ensures.countable);
      anyway = at_raised seat c.make_room.new.self c.settle-kept.new.self c.in_ok-tables.field-0
          (settled (catalog_in seat.machine) (site_in seat.machine) (found_by c.args.keeps S) S).records
          (λ (x : Catalog). λ (j : SiteId). λ (t : Option Tables). IsReadyAnyway x j t Restart c.in_ok-ready.ready)
          c.in_ok-tables.ensures c.make_room.ensures.same c.settle-kept.ensures.same c.settle-kept.ensures.down
          c.in_ok-ready.ensures.anyway;
    }

pub returns-clause-comes : goal.returns-clause-comes
returns-clause-comes c format =
    let seat = c.args.self.now in
    let S = standing_of seat in
    raised format seat c.make_room.new.self c.settle-kept.new.self c.come-came.new.machine c.args.keeps c.args.fate
    c.in_ok-tables.field-0
    c.in_ok-ready.ready c.settle-kept.result c.come-came.result c.requires.down c.requires.can.seat_is c.in_ok-tables.ensures
    c.make_room.ensures.same c.settle-kept.ensures.same c.settle-kept.ensures.down
    (c.settle-kept.ensures.settles S (c.make_room.ensures.stands S c.requires.can.seat_is.stands)
    (are_found (catalog_in seat.machine) (site_in seat.machine) S (found_by c.args.keeps S) c.in_ok-tables.field-0.count
    (found_there c.args.keeps S) c.in_ok-tables.ensures.count))
    (c.in_ok-ready.ensures.ready format) (c.come-came.ensures format)

pub returns-in_err-tables-clause-left : goal.returns-in_err-tables-clause-left
returns-in_err-tables-clause-left c = where_err _ c.requires.can.seat_is

pub returns-in_err-ready-clause-left : goal.returns-in_err-ready-clause-left
returns-in_err-ready-clause-left c = where_err _ c.requires.can.seat_is
