-- What the trails of all sites are at a moment, how many packets have arrived, how the disks are armed and how many calls of
-- them were made; and what an event makes of it.
use Rattle.std.specs.Prelude.{◌≡◌, ◌≢◌, ◌⊎◌, ◌+◌, ◌∷◌, max, ℕ, zero, suc, List, [], length, replicate, reverse, slice_get, Option, Some, None, IfSome}
use Rattle.walter_base.specs.declared.catalog.Catalog.{Catalog}
use Rattle.walter_base.specs.declared.names.SiteId.{SiteId}
use Rattle.walter_cell.specs.declared.answers.Acted.{Acted}
use Rattle.walter_cell.specs.declared.answers.Moved.{Moved}
use Rattle.walter_cell.specs.declared.answers.Moved.TheVariants as moved
use Rattle.walter_cell.specs.declared.answers.Serve.{Serve}
use Rattle.walter_cell.specs.Cells.{CellValue, TurnsTo, Acts}
use Rattle.walter_cell.specs.Entries.{IsSpent, HasPlace, Grows}
use Rattle.walter_cell.specs.Nodes.{MayCall, MayDrop, capacity_of}
use Rattle.walter_disk.specs.Disks.{Arming, and_arming}
use Rattle.walter_disk.specs.declared.disk.Disk.{Ghosts}
use Rattle.walter_outbox.specs.Lanes.{arrived_from}
use Rattle.walter_rules.specs.declared.entry.Entry.{Entry}
use Rattle.walter_rules.specs.declared.event.Event.{Event}
use Rattle.walter_rules.specs.declared.event.Event.TheVariants as event
use Rattle.walter_rules.specs.declared.event.Input.TheVariants as input
use Rattle.walter_rules.specs.Merges.{Stamped, put_out_to, trail_of}
use Rattle.walter_rules.specs.Trails.{clock, opening}
use Rattle.walter_cluster.specs.Benches.{BenchValue, AreMet, IsToldAt, trails_of, ins_at, arms_at, calls_at}

-- the trails of all sites, in order; how many packets have arrived at a site from another; and of each site's disk the calls
-- of `arm`, in order, where it tells them, and how many calls that these count were made
pub record Moment : Type 0 where
  pub trails : List (List Entry)
  pub arrived : (to from : ℕ) → ℕ
  pub arms : ℕ → Option (List Arming)
  pub calls : ℕ → ℕ

abbrev pub moment_of : {D : Type 0} → Ghosts D → List (CellValue D) → Moment
moment_of g cells = record {
  trails = trails_of cells;
  arrived = λ to from. length (arrived_from (ins_at cells to) from);
  arms = arms_at g cells;
  calls = calls_at g cells;
}

-- before the first step: each trail has its opening alone, nothing has arrived, and no disk was armed
pub record IsFirst (sites : ℕ) (m : Moment) : Type 0 where
  pub openings : m.trails ≡ replicate sites (opening ∷ [])
  pub none_arrived : (to from : ℕ) → m.arrived to from ≡ 0
  pub none_armed : (i : ℕ) → IfSome (m.arms i) (λ arms. arms ≡ [])

-- the stamp of the last entry of a site
abbrev pub clock_at : Moment → SiteId → ℕ
clock_at m i = clock (reverse (trail_of m.trails i))

-- ---- what changes

-- no disk is armed
abbrev pub KeepsArms : (old new : Moment) → Type 0
KeepsArms old new = (i : ℕ) → new.arms i ≡ old.arms i

-- no trail but that of one site changes, no call is made of the other sites' disks, and no disk is armed
pub record ChangesAt (i : SiteId) (old new : Moment) : Type 0 where
  pub sites : length new.trails ≡ length old.trails
  pub others : (j : SiteId) → j ≢ i → trail_of new.trails j ≡ trail_of old.trails j
  pub arms : KeepsArms old new
  pub calls : (j : ℕ) → j ≢ i.0 → new.calls j ≡ old.calls j

-- no packet arrives
abbrev pub NoneArrive : (old new : Moment) → Type 0
NoneArrive old new = (to from : ℕ) → new.arrived to from ≡ old.arrived to from

-- all arrives that the other sites have put out to this one, and nothing elsewhere
pub record AllArrive (to : SiteId) (old new : Moment) : Type 0 where
  pub here : (from : SiteId) → from ≢ to
      → new.arrived to.0 from.0 ≡ length (put_out_to to (trail_of old.trails from))
  pub elsewhere : (i from : ℕ) → (i ≢ to.0) ⊎ (from ≡ to.0) → new.arrived i from ≡ old.arrived i from

-- of what the entry that comes to a site's trail is to put out, only what finds 1,024 packets on its lane that haven't
-- arrived is dropped, or what is behind all that a lane carries
abbrev pub DropsAt : Catalog → SiteId → (old new : Moment) → Type 0
DropsAt catalog i old new =
    MayDrop catalog i (λ k. old.arrived k i.0) (trail_of old.trails i) (trail_of new.trails i)

-- the calls of a site's disk are those of the entry that comes to its trail, where its journal has so many bytes at most
abbrev pub CallsAt : ℕ → Catalog → SiteId → (old new : Moment) → Type 0
CallsAt capacity catalog i old new =
    MayCall capacity catalog i (trail_of old.trails i) (trail_of new.trails i) (old.calls i.0) (new.calls i.0)

-- the trail of a site
abbrev pub trail_at : {D : Type 0} → List (CellValue D) → SiteId
    → List Entry
trail_at cells i = trail_of (trails_of cells) i

-- so it is, where nothing arrives but where the ends of a lane meet, and the site's disk tells what it holds
abbrev pub Drops : {D : Type 0} → Ghosts D → SiteId
    → (old new : BenchValue D) → Type 0
Drops {D = D} g i old new =
    AreMet old → IsToldAt g i.0 old → (c : CellValue D) → slice_get old.cells i.0 ≡ Some c
    → DropsAt c.node.catalog i (moment_of g old.cells) (moment_of g new.cells)

-- so it is with the calls of the site's disk, where that tells what it holds
abbrev pub CallsDisk : {D : Type 0} → Ghosts D → SiteId
    → (old new : BenchValue D) → Type 0
CallsDisk {D = D} g i old new =
    IsToldAt g i.0 old → (c : CellValue D) → slice_get old.cells i.0 ≡ Some c
    → CallsAt (capacity_of c.node.layout) c.node.catalog i (moment_of g old.cells) (moment_of g new.cells)

-- ---- what calls of a bench come to

-- a client's turn at its site, whose connection may have failed
pub record TurnsAt (i : SiteId) (number : ℕ) (bytes : List ℕ) (fault : Type 0) (old new : Moment)
    (answer : Serve) : Type 0 where
  pub turns : TurnsTo number bytes (clock_at old i) fault (trail_of old.trails i) (trail_of new.trails i) answer
  pub others : ChangesAt i old new
  pub none_arrive : NoneArrive old new

-- an event that brings nothing
pub record ActsAt (i : SiteId) (happens : Event) (old new : Moment) (answer : Acted) : Type 0 where
  pub acts : Acts happens (clock_at old i) (trail_of old.trails i) (trail_of new.trails i) answer
  pub others : ChangesAt i old new
  pub none_arrive : NoneArrive old new

-- the packet of a number among those that a site has put out to another, with the stamp of its entry
abbrev pub put_out_as : List (List Entry) → (to from : SiteId) → ℕ → Option Stamped
put_out_as trails to from zero = None
put_out_as trails to from (suc before) = slice_get (put_out_to to (trail_of trails from)) before

-- the stamp that its delivery would have
abbrev pub stamp_for : ℕ → Option Stamped → ℕ
stamp_for last None = last + 1
stamp_for last (Some put) = max last put.0 + 1

-- what the delivery comes to, once all has arrived that was put out to the site: the trail is spent; or no such packet
-- was put out; or it comes to the trail
abbrev pub HandsOver : SiteId → ℕ → Option Stamped → ℕ → List Entry → List Entry → Moved → Type 0
HandsOver from number put last old new moved.Spent = IsSpent (stamp_for last put) old × (new ≡ old)
HandsOver from number put last old new moved.Nothing =
    HasPlace (stamp_for last put) old × (put ≡ None) × (new ≡ old)
HandsOver from number put last old new moved.Did = HasPlace (stamp_for last put) old
    × ((there : Stamped) × (put ≡ Some there) × Grows (event.Given (input.Deliver from number there.1)) old new)

-- where the trail is spent, nothing changes; else all arrives first
pub data MovesAt (to from : SiteId) (number : ℕ) (old new : Moment) : Moved → Type 0 where
  at_once : IsSpent (clock_at old to + 1) (trail_of old.trails to) → new ≡ old
      → MovesAt to from number old new moved.Spent
  arrives : (answer : Moved) → HasPlace (clock_at old to + 1) (trail_of old.trails to) → AllArrive to old new
      → ChangesAt to old new
      → HandsOver from number (put_out_as old.trails to from number) (clock_at old to) (trail_of old.trails to)
      (trail_of new.trails to) answer
      → MovesAt to from number old new answer

-- the disk of a site is armed once more, behind what it was armed before, where it tells that, and after so many calls as were
-- made of it; nothing else changes
pub record ArmsAt (i : SiteId) (nth choice : ℕ) (old new : Moment) : Type 0 where
  pub here : new.arms i.0 ≡ and_arming (record { at = old.calls i.0; nth = nth; choice = choice }) (old.arms i.0)
  pub others : (j : ℕ) → j ≢ i.0 → new.arms j ≡ old.arms j
  pub calls : (j : ℕ) → new.calls j ≡ old.calls j
  pub trails : new.trails ≡ old.trails
  pub none_arrive : NoneArrive old new
