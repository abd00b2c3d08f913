use Rattle.std.proofs.Common.{sym, ◌∙◌, subst, refl}
use Rattle.std.specs.Prelude.{IfOk}
use Rattle.walter_base.specs.declared.catalog.Catalog.{Catalog}
use Rattle.walter_base.specs.declared.names.SiteId.{SiteId}
use Rattle.walter_machine.proofs.Sizes.{only_alone}
use Rattle.walter_machine.specs.Machines.{catalog_in, site_in, tables_in}
use Rattle.walter_machine.specs.Readiness.{IsReadyAnyway}
use Rattle.walter_rules.specs.declared.entry.Came.{Came}
use Rattle.walter_rules.specs.declared.event.Event.{Event}
use Rattle.walter_world.specs.Comings.{found_by}
use Rattle.walter_world.specs.Seats.{HasCome, CanTake, standing_of}
use Rattle.walter_world.proofs.Coming.{at_new, declined, given}
use Rattle.walter_world.proofs.Seated.{seat_still, where_err}
use Rattle.walter_world.proofs.seat.Seat.came_of.Goals as goal

-- ---- at a site that is up

pub returns-in_err-prepare-clause-left : goal.returns-in_err-prepare-clause-left
returns-in_err-prepare-clause-left c =
    let seat = c.args.self.now in
    where_err _ (seat_still (catalog_in seat.machine) (site_in seat.machine) seat (record seat { machine = c.prepare.new.self })
    c.requires.seat_is c.prepare.ensures.same c.prepare.ensures.stands refl)

pub come-requires : goal.come-requires
come-requires c = record {
  room = λ down. absurd (let e = sym c.prepare.ensures.up ∙ down in cc);
  countable = c.in_ok-prepare.ensures.countable;
  anyway = at_new c.args.self.now.machine c.prepare.new.self
      (λ (k : Catalog). λ (i : SiteId).
      IsReadyAnyway k i (tables_in c.prepare.new.self) c.args.event.now c.prepare.new.ready)
      c.prepare.ensures.same c.in_ok-prepare.ensures.anyway;
}

pub returns-then-is_up-clause-comes : goal.returns-then-is_up-clause-comes
returns-then-is_up-clause-comes c =
    let seat = c.args.self.now in
    let S = standing_of seat in
    let stands = c.requires.seat_is.stands in
    given c.args.format seat c.prepare.new.self c.come.new.machine c.args.event.now c.args.keeps c.args.fate
    c.prepare.new.ready c.come.result c.requires.seat_is (sym c.is_up.ensures ∙ c.if-is_up.true) c.prepare.ensures.same
    (c.prepare.ensures.stands S stands) (c.in_ok-prepare.ensures.ready S stands) (c.come.ensures c.args.format)

-- ---- at one that is down

pub rise-requires-clause-can : goal.rise-requires-clause-can
rise-requires-clause-can c =
    subst (λ (e : Event). CanTake (catalog_in c.args.self.now.machine) (site_in c.args.self.now.machine) c.args.self.now e
    c.args.keeps) c.in-Restart.is c.requires

pub returns-in-Restart-clause-comes : goal.returns-in-Restart-clause-comes
returns-in-Restart-clause-comes c =
    let seat = c.args.self.now in
    let S = standing_of seat in
    subst (λ (e : Event). IfOk c.rise.result (λ (x : Came).
    HasCome c.args.format (catalog_in seat.machine) (site_in seat.machine) S e (found_by c.args.keeps S) c.args.fate x
    c.rise.new.self.machine)) (sym c.in-Restart.is) (c.rise.ensures.comes c.args.format)

pub decline-requires-clause-alone : goal.decline-requires-clause-alone
decline-requires-clause-alone c = only_alone c.only-came.result _ c.only-came.ensures

pub returns-in_default-clause-comes : goal.returns-in_default-clause-comes
returns-in_default-clause-comes c =
    let d = c.decline.ensures in
    declined c.args.format c.args.self.now c.args.event.now c.args.keeps c.args.fate c.decline.new.came c.requires
    (sym c.is_up.ensures ∙ c.if-is_up.false) c.in_default.not-Restart d.alone (d.ruled c.args.format) d.stands
