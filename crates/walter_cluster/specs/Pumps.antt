-- What a site does that is pumped, as the trails of all sites tell (docs/FORMATS.md, "The link").
use Rattle.std.specs.Prelude.{◌≡◌, ◌≢◌, ◌≤◌, ◌+◌, ℕ, true, false, List, length, map, reverse, slice_get, Some}
use Rattle.walter_base.specs.declared.catalog.Catalog.{Catalog}
use Rattle.walter_base.specs.declared.names.SiteId.{SiteId}
use Rattle.walter_cell.specs.declared.answers.Acted.{Acted}
use Rattle.walter_cell.specs.declared.answers.Moved.TheVariants as moved
use Rattle.walter_cell.specs.declared.answers.Pumped.{Pumped}
use Rattle.walter_cell.specs.declared.answers.Pumped.TheVariants as pumped
use Rattle.walter_cell.specs.Cells.{CellValue, Acts}
use Rattle.walter_cell.specs.Entries.{IsSpent, HasPlace}
use Rattle.walter_cell.specs.Pumps.{Works, acted_so}
use Rattle.walter_link.specs.Pumps.{PumpValue, new_pump, take_arrived, taken_from}
use Rattle.walter_outbox.specs.Lanes.{arrived_from}
use Rattle.walter_rules.specs.Deliveries.{IsLeastEnabled}
use Rattle.walter_rules.specs.declared.event.Event.TheVariants as event
use Rattle.walter_rules.specs.Knowledge.{site_at, sites}
use Rattle.walter_rules.specs.Merges.{trail_of}
use Rattle.walter_rules.specs.Standing.{Standing}
use Rattle.walter_rules.specs.Trails.{standing}
use Rattle.walter_scenario.specs.declared.scenario.Scenario.{Scenario}
use Rattle.walter_cluster.specs.Benches.{ins_at}
use Rattle.walter_cluster.specs.Moments.{Moment, ActsAt, AllArrive, ChangesAt, HandsOver, clock_at, put_out_as}

-- a pump is of this site, and takes of the packets of all sites no more than has arrived
pub record IsPumpAt {D : Type 0} (cells : List (CellValue D)) (i : SiteId) (pump : PumpValue) : Type 0 where
  pub site : pump.site ≡ i
  pub senders : length pump.senders ≡ length cells
  pub taken : (from : ℕ) → taken_from pump from ≤ length (arrived_from (ins_at cells i.0) from)

-- each pump is its site's
pub record ArePumps {D : Type 0} (cells : List (CellValue D)) (pumps : List PumpValue) : Type 0 where
  pub long : length pumps ≡ length cells
  pub each : (i : ℕ) (pump : PumpValue) → slice_get pumps i ≡ Some pump → IsPumpAt cells (site_at i) pump

-- what waits at the sites of a scenario before anything has come: nothing
abbrev pub new_pumps : Scenario → List PumpValue
new_pumps t = map (λ site. new_pump t.link site t.catalog.sites t.ticks) (sites t.catalog)

-- how a site stands by its trail
abbrev pub standing_at : Catalog → SiteId → Moment → Standing
standing_at catalog i m = standing catalog i (reverse (trail_of m.trails i))

-- What a pump comes to at a site. The trail is spent; or the site is down, and made anew; or all arrives that was put out
-- to it, and the link takes what wasn't taken before, and the site does what is next. Of a site that is told, that is whose
-- disk tells what it holds, it is said whether it is up, and which peer's commit is next.
pub data PumpsAt (told : Type 0) (catalog : Catalog) (i : SiteId) (old new : Moment) (before after : PumpValue)
    (answer : Pumped) : Type 0 where
  at_once : IsSpent (clock_at old i + 1) (trail_of old.trails i) → new ≡ old → after ≡ before → answer ≡ pumped.Spent
      → PumpsAt told catalog i old new before after answer
  raises : (acted : Acted) → HasPlace (clock_at old i + 1) (trail_of old.trails i)
      → (told → (standing_at catalog i old).up ≡ false) → ActsAt i event.Restart old new acted → after ≡ before
      → answer ≡ acted_so acted → PumpsAt told catalog i old new before after answer
  works : HasPlace (clock_at old i + 1) (trail_of old.trails i) → (told → (standing_at catalog i old).up ≡ true)
      → AllArrive i old new → ChangesAt i old new
      → Works
      (λ from number move. (move ≢ moved.Nothing) × HandsOver from number (put_out_as old.trails i from number)
      (clock_at old i) (trail_of old.trails i) (trail_of new.trails i) move)
      (λ happens acted. Acts happens (clock_at old i) (trail_of old.trails i) (trail_of new.trails i) acted)
      (trail_of new.trails i ≡ trail_of old.trails i)
      (λ least. told → IsLeastEnabled catalog i (standing_at catalog i old).knows least)
      (take_arrived i (new.arrived i.0) before) after answer
      → PumpsAt told catalog i old new before after answer
