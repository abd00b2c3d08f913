-- What comes to a site that clients and pumps alone drive (docs/FORMATS.md, "The link").
use Rattle.std.specs.Prelude.{◌≡◌, ◌≤◌, ℕ, nat_eq, Bool, true, false, ◌&&◌, List, [], ◌∷◌, count_by, reverse, Some, None}
use Rattle.walter_base.specs.declared.catalog.Catalog.{Catalog}
use Rattle.walter_base.specs.declared.names.SiteId.{SiteId}
use Rattle.walter_base.specs.Names.{same_site}
use Rattle.walter_link.specs.Choices.{copies}
use Rattle.walter_rules.specs.declared.entry.Entry.{Entry}
use Rattle.walter_rules.specs.declared.event.Event.{Event}
use Rattle.walter_rules.specs.declared.event.Event.TheVariants.{Given, Stop, Restart}
use Rattle.walter_rules.specs.declared.event.Input.TheVariants.{Call, Deliver, Advance, Tick, Upgrade}
use Rattle.walter_rules.specs.Deliveries.{IsLeastEnabled}
use Rattle.walter_rules.specs.Standing.{Standing}
use Rattle.walter_rules.specs.Trails.{standing}
use Rattle.walter_scenario.specs.declared.scenario.Scenario.{Scenario}

-- whether an event is the delivery of a site's packet of this number, and how often a trail has that
abbrev pub is_delivery : SiteId → ℕ → Event → Bool
is_delivery from number (Given (Deliver j n packet)) = same_site from j && nat_eq number n
is_delivery from number event = false

abbrev pub deliveries_of : SiteId → ℕ → List Entry → ℕ
deliveries_of from number trail = count_by (λ (e : Entry). is_delivery from number e.event) trail

-- whether it is a tick, and how many of them a trail has
abbrev pub is_tick : Event → Bool
is_tick (Given Tick) = true
is_tick event = false

abbrev pub ticks_in : List Entry → ℕ
ticks_in trail = count_by (λ (e : Entry). is_tick e.event) trail

-- what may come to a site that stands so: a call; a restart where it is down; where it is up a delivery, the advance of the
-- least peer whose commit can be committed, or a tick where there is no such peer
abbrev pub MayCome : Catalog → SiteId → Standing → Event → Type 0
MayCome catalog i S (Given (Call client call)) = Unit {0}
MayCome catalog i S (Given (Deliver from number packet)) = S.up ≡ true
MayCome catalog i S (Given (Advance from)) = (S.up ≡ true) × IsLeastEnabled catalog i S.knows (Some from)
MayCome catalog i S (Given Tick) = (S.up ≡ true) × IsLeastEnabled catalog i S.knows None
MayCome catalog i S (Given Upgrade) = ⊥
MayCome catalog i S Stop = ⊥
MayCome catalog i S Restart = S.up ≡ false

-- each event of a trail might come where it did; the newest comes first
abbrev pub HaveCome : Catalog → SiteId → List Entry → Type 0
HaveCome catalog i [] = Unit {0}
HaveCome catalog i (e ∷ older) = HaveCome catalog i older × MayCome catalog i (standing catalog i older) e.event

-- A trail is worked: where its site is told, that is where its disk tells what it holds, each event might come; no packet
-- was delivered more often than the link copies it; and there are no more ticks than the scenario has.
pub record IsWorked (told : Type 0) (t : Scenario) (i : SiteId) (trail : List Entry) : Type 0 where
  pub events : told → HaveCome t.catalog i (reverse trail)
  pub packets : (from : SiteId) (number : ℕ) → deliveries_of from number trail ≤ copies t.link.seed t.link.rates i from number
  pub ticks : ticks_in trail ≤ t.ticks
