use Rattle.std.proofs.Common.{◌≡◌, List, [], ◌∷◌, ◌++◌, reverse, false, ap, ◌∙◌, subst, arith}
use Rattle.walter_base.specs.declared.catalog.Catalog.{Catalog}
use Rattle.walter_base.specs.declared.names.SiteId.{SiteId}
use Rattle.walter_machine.specs.Machines.{catalog_in, site_in}
use Rattle.walter_rules.specs.declared.entry.Entry.{Entry}
use Rattle.walter_rules.specs.declared.event.Event.TheVariants as event
use Rattle.walter_rules.specs.Trails.{clock}
use Rattle.walter_world.specs.declared.events.Fate.TheVariants as fate
use Rattle.walter_world.specs.declared.seat.Seat.{Seat}
use Rattle.walter_world.specs.Comings.{entry_of}
use Rattle.walter_world.specs.Seats.{IsSeat}
use Rattle.walter_world.proofs.Opened.{none_yet}
use Rattle.walter_world.proofs.world.seat_of.Goals as goal

-- what holds of the site of the machine holds of that which it was made for
at_made : (catalog made : Catalog) (i : SiteId) (seat : Seat) (P : Catalog → SiteId → Type 0)
    → catalog_in seat.machine ≡ made → made ≡ catalog → site_in seat.machine ≡ i
    → P (catalog_in seat.machine) (site_in seat.machine) → P catalog i
at_made catalog made i seat P is same site p =
    subst (P catalog) site (subst (λ (k : Catalog). P k (site_in seat.machine)) (is ∙ same) p)

pub take-requires : goal.take-requires
take-requires c =
    none_yet c.args.format c.in_ok-clone.field-0 c.args.id
    (record { machine = c.new.result; entries = c.new-2.result }) c.new.ensures.stands
    c.new-2.ensures.items

pub returns-clause-seat : goal.returns-clause-seat
returns-clause-seat c =
    at_made c.args.catalog.now c.in_ok-clone.field-0 c.args.id (record { machine = c.new.result; entries = c.new-2.result })
    (λ (k : Catalog). λ (j : SiteId). IsSeat k j c.take.new.self) c.new.ensures.catalog c.in_ok-clone.ensures.cases
    c.new.ensures.id c.in_ok-take.ensures.seat

pub returns-clause-opening : goal.returns-clause-opening
returns-clause-opening c =
    at_made c.args.catalog.now c.in_ok-clone.field-0 c.args.id (record { machine = c.new.result; entries = c.new-2.result })
    (λ (k : Catalog). λ (j : SiteId). c.take.new.self.entries.items ≡ entry_of c.args.format k j [] event.Restart 0
    false fate.Fine ∷ []) c.new.ensures.catalog c.in_ok-clone.ensures.cases c.new.ensures.id
    (c.in_ok-take.ensures.takes 0
    (let none = ap (λ (t : List Entry). clock (reverse t)) c.new-2.ensures.items in omega (arith, none))
    ∙ ap (λ (t : List Entry). t ++ entry_of c.args.format (catalog_in c.new.result) (site_in c.new.result) t
    event.Restart 0 false fate.Fine ∷ []) c.new-2.ensures.items)
