-- What holds of a site of a world between two events, and what an event leaves of it.
use Rattle.std.specs.Prelude.{◌≡◌, ◌<◌, ℕ, Bool, false, reverse, Option, All}
use Rattle.walter_base.specs.declared.catalog.Catalog.{Catalog}
use Rattle.walter_base.specs.declared.format.Format.{Format}
use Rattle.walter_base.specs.declared.message.Record.{Record}
use Rattle.walter_base.specs.declared.names.SiteId.{SiteId}
use Rattle.walter_machine.specs.declared.machine.Machine.{Machine}
use Rattle.walter_machine.specs.Machines.{catalog_in, site_in, HasStanding}
use Rattle.walter_machine.specs.States.{IsSizedEvent}
use Rattle.walter_packet.specs.Spelling.{HasPacketSpelling}
use Rattle.walter_rules.specs.declared.entry.Came.{Came}
use Rattle.walter_rules.specs.declared.event.Event.{Event}
use Rattle.walter_rules.specs.declared.event.Event.TheVariants.{Restart}
use Rattle.walter_rules.specs.Layouts.{Layout}
use Rattle.walter_rules.specs.Standing.{Standing, settled, stands_after}
use Rattle.walter_rules.specs.Trails.{standing, clock, AreRight}
use Rattle.walter_world.specs.declared.events.Fate.{Fate}
use Rattle.walter_world.specs.declared.seat.Seat.{Seat}
use Rattle.walter_world.specs.Comings.{comes_to}

-- each packet that was put out has a spelling among so many sites
abbrev pub AreSpelled : ℕ → Came → Type 0
AreSpelled sites came = All (λ s. HasPacketSpelling sites s.1) came.sends

-- how the site stands by its trail
abbrev pub standing_of : Seat → Standing
standing_of seat = standing (catalog_in seat.machine) (site_in seat.machine) (reverse seat.entries.items)

-- the site stands as its trail says
pub record IsSeat (catalog : Catalog) (i : SiteId) (seat : Seat) : Type 0 where
  pub catalog_is : catalog_in seat.machine ≡ catalog
  pub site : site_in seat.machine ≡ i
  pub stands : HasStanding seat.machine (standing catalog i (reverse seat.entries.items))
  pub spelled : All (λ e. AreSpelled catalog.sites e.came) seat.entries.items

-- only a restart may find a record
abbrev pub MayFind : Event → Bool → Type 0
MayFind Restart keeps = Unit {0}
MayFind event keeps = keeps ≡ false

-- The event can come to the site: its packet has the sizes of one among so many sites, and there are stamps left, and so
-- epochs.
pub record CanTake (catalog : Catalog) (i : SiteId) (seat : Seat) (event : Event) (keeps : Bool) : Type 0 where
  pub seat_is : IsSeat catalog i seat
  pub layout : Layout
  pub right : AreRight catalog layout i (reverse seat.entries.items)
  pub young : clock (reverse seat.entries.items) < 4294967295
  pub sized : IsSizedEvent catalog.sites event
  pub finds : MayFind event keeps

-- an event came to this at a site that stood so, whose journal's header names this format, where this record was found
pub record HasCome (format : Format) (catalog : Catalog) (i : SiteId) (S : Standing) (event : Event)
    (kept : Option Record) (fate : Fate) (came : Came) (machine : Machine) : Type 0 where
  pub catalog_is : catalog_in machine ≡ catalog
  pub site : site_in machine ≡ i
  pub came_is : came ≡ comes_to format catalog i S event kept fate
  pub stands : HasStanding machine (stands_after catalog i (settled catalog i kept S) event came)
  pub spelled : AreSpelled catalog.sites came
