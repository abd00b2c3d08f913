-- What contracts see of a site with its trail and its lanes, and what holds of it between two events.
use Rattle.std.specs.Prelude.{◌≡◌, ◌≢◌, ◌<◌, ◌≤◌, ◌⊎◌, ◌+◌, ◌-◌, ◌/◌, ◌^◌, ℕ, Bool, true, false, List, [], ◌∷◌, ◌++◌, Option, Some, None, IfSome, All}
use Rattle.std.specs.Prelude.{length, reverse, slice_get, count_by, is_some}
use Rattle.walter_base.specs.declared.catalog.Catalog.{Catalog}
use Rattle.walter_base.specs.declared.format.Format.TheVariants.{First}
use Rattle.walter_base.specs.declared.names.SiteId.{SiteId}
use Rattle.walter_disk.specs.Disks.{Arming, and_arming}
use Rattle.walter_disk.specs.declared.disk.Disk.{Ghosts}
use Rattle.walter_engine.specs.Contents.{MayHaveRecords}
use Rattle.walter_engine.specs.Effects.{AreCalls, AreCallsOfRestart}
use Rattle.walter_engine.specs.Engines.{catalog_in, site_in, layout_in, disk_in, Stands}
use Rattle.walter_engine.specs.declared.engine.Engine.{Engine}
use Rattle.walter_journal.specs.Zeros.{writes_of}
use Rattle.walter_lane.specs.Lanes.{Sending}
use Rattle.walter_machine.specs.Comings.{IsSized, is_faulty}
use Rattle.walter_rules.specs.declared.entry.Came.{Came}
use Rattle.walter_rules.specs.declared.entry.Entry.{Entry}
use Rattle.walter_rules.specs.declared.event.Event.{Event}
use Rattle.walter_rules.specs.declared.event.Event.TheVariants.{Restart}
use Rattle.walter_rules.specs.Layouts.{Layout, one_area, two_areas}
use Rattle.walter_rules.specs.Rule.{rule}
use Rattle.walter_rules.specs.Standing.{Standing, settled}
use Rattle.walter_rules.specs.Trails.{standing, clock, opening, IsRightTrail}
use Rattle.walter_site.specs.Members.{IsShortOutcome}
use Rattle.walter_cell.specs.Entries.{HaveRisingStamps}
use Rattle.walter_outbox.specs.Lanes.{HavePut, out_rings, mets, met_to, IsPutWhereFree}

-- the site with its disk and its trail, and the ends of its lanes to all sites; and for how many more entries there is
-- memory
pub record NodeValue (D : Type 0) : Type 0 where
  pub catalog : Catalog
  pub site : SiteId
  pub layout : Layout
  pub disk : Option D
  pub trail : List Entry
  pub outs : List Sending
  pub room : ℕ

-- the stamp of its last entry
abbrev pub clock_in : {D : Type 0} → NodeValue D → ℕ
clock_in node = clock (reverse node.trail)

-- how the site stands by its trail
abbrev pub standing_of : {D : Type 0} → NodeValue D → Standing
standing_of node = standing node.catalog node.site (reverse node.trail)

-- for how many entries its trail has had memory
abbrev pub places_in : {D : Type 0} → NodeValue D → ℕ
places_in node = length node.trail + node.room

-- there is memory for one more entry
abbrev pub IsReady : {D : Type 0} → NodeValue D → Type 0
IsReady node = 0 < node.room

-- but for more memory it is as before
pub record IsSameButRoom {D : Type 0} (old new : NodeValue D) : Type 0 where
  pub same : new ≡ record old { room = new.room }
  pub more : old.room ≤ new.room

-- but for the ends of its lanes
abbrev pub IsSameButLanes : {D : Type 0} → (old new : NodeValue D) → Type 0
IsSameButLanes old new = new ≡ record old { outs = new.outs }

-- but for its disk
abbrev pub IsSameButDisk : {D : Type 0} → (old new : NodeValue D) → Type 0
IsSameButDisk old new = new ≡ record old { disk = new.disk }

-- the entry of an event that came to this
abbrev pub entry_by : ℕ → Event → Came → Entry
entry_by stamp event came = record { stamp = stamp; event = event; came = came }

-- what this entry puts out is all that the rule says, but for what finds its lane full, which is dropped; or it puts
-- out nothing, and drops nothing. What it says to put out is the same over a journal of either format. So many packets
-- had been put for each site when the ends of its lane last met
abbrev pub DropsWhereFull : Catalog → SiteId → (ℕ → ℕ) → List Entry → Entry → Type 0
DropsWhereFull catalog i met older e =
    ((e.came.sends ≡ []) × (e.came.dropped ≡ 0))
    ⊎ IsPutWhereFree met (settled catalog i e.came.kept (standing catalog i older)).carried
    (rule First catalog i (settled catalog i e.came.kept (standing catalog i older)) e.event).sends e.came.sends
    e.came.dropped

-- so does the entry that comes to a trail, if one does
abbrev pub MayDrop : Catalog → SiteId → (ℕ → ℕ) → List Entry → List Entry → Type 0
MayDrop catalog i met old new =
    (new ≡ old) ⊎ ((e : Entry) × (new ≡ old ++ e ∷ []) × DropsWhereFull catalog i met (reverse old) e)

-- ---- how many calls of its disk an event makes

-- the most bytes that the disk has under a journal which is laid out so
abbrev pub capacity_of : Layout → ℕ
capacity_of (one_area capacity header) = capacity
capacity_of (two_areas capacity sites header) = capacity

-- Those of a restart of a site that was down: a read of the journal; those that pack it where it is of two areas, four
-- behind the writes of zeros where the disk ends in front of the area; and those of the record.
pub record AreCallsToRaise (capacity : ℕ) (came : Came) (old new : ℕ) : Type 0 where
  pub pack : ℕ
  pub packs : (pack ≡ 0) ⊎ ((size : ℕ) × (pack ≡ writes_of (9 + (capacity - 9) / 2 - size) + 4))
  pub calls : AreCallsOfRestart came (1 + pack) old new

-- those of an event at a site that stood so: but for such a restart, those of the record
pub record AreCallsAt (capacity : ℕ) (S : Standing) (event : Event) (came : Came) (old new : ℕ) : Type 0 where
  pub to_restart : S.up ≡ false → event ≡ Restart → AreCallsToRaise capacity came old new
  pub to_write : (S.up ≡ false → event ≢ Restart) → AreCalls came old new

-- those of the entry that comes to a trail, if one does; else none
abbrev pub MayCall : ℕ → Catalog → SiteId → (old new : List Entry) → (before after : ℕ) → Type 0
MayCall capacity catalog i old new before after =
    ((new ≡ old) × (after ≡ before))
    ⊎ ((e : Entry) × (new ≡ old ++ e ∷ [])
    × AreCallsAt capacity (standing catalog i (reverse old)) e.event e.came before after)

module _ {D : Type 0} (g : Ghosts D) where
  -- whether a disk tells what it holds
  abbrev pub is_told : Option D → Bool
  is_told None = false
  is_told (Some disk) = is_some (g.known disk).reads

  -- the arms of a disk, where it tells them
  abbrev pub arms_under : Option D → Option (List Arming)
  arms_under None = None
  arms_under (Some disk) = (g.known disk).arms

  -- how many calls of it were made that an arm counts
  abbrev pub calls_under : Option D → ℕ
  calls_under None = 0
  calls_under (Some disk) = g.device_calls disk

  -- the arms of a disk that is armed once more, where it tells them
  abbrev pub armed_under : (nth choice : ℕ) → Option D → Option (List Arming)
  armed_under nth choice disk =
      and_arming (record { at = calls_under disk; nth = nth; choice = choice }) (arms_under disk)

  -- the records of a site that stands as the trail says are all that a crash may leave of the disk
  abbrev pub LeavesRecords : Catalog → Layout → SiteId → List Entry → D → Type 0
  LeavesRecords catalog layout i trail disk = (image : List ℕ) → g.may_leave disk image
      → MayHaveRecords layout (standing catalog i (reverse trail)).records
      (standing catalog i (reverse trail)).flight image

  -- Its trail begins with the opening and has rising stamps, its lanes have put what the trail puts out, and its disk
  -- failed at least as often as the trail says. Where the disk tells what it holds the trail is right, and a crash leaves
  -- its records.
  pub record IsSound (node : NodeValue D) : Type 0 where
    pub begins : slice_get node.trail 0 ≡ Some opening
    pub early : clock_in node < 2 ^ 62
    pub rise : HaveRisingStamps (reverse node.trail)
    pub sized : All (λ e. IsSized node.catalog.sites e.came) node.trail
    pub put : HavePut node.catalog.sites node.trail node.outs
    pub faults : IfSome node.disk (λ disk. count_by (λ e. is_faulty e.came.outcome) node.trail ≤ (g.known disk).faults)
    pub right : is_told node.disk ≡ true → IsRightTrail node.catalog node.layout node.site node.trail
    pub leaves : is_told node.disk ≡ true
        → IfSome node.disk (LeavesRecords node.catalog node.layout node.site node.trail)

  -- what each call keeps: which site it is, among which and over which kind of disk; its lanes; and no memory for entries
  -- is given back
  pub record KeepsNode (old new : NodeValue D) : Type 0 where
    pub catalog : new.catalog ≡ old.catalog
    pub site : new.site ≡ old.site
    pub layout : new.layout ≡ old.layout
    pub told : is_told new.disk ≡ is_told old.disk
    pub rings : out_rings new.outs ≡ out_rings old.outs
    pub places : places_in old ≤ places_in new

  -- an event came to it: its entry stands last in the trail. It neither arms the disk nor makes lanes' ends meet. Where the
  -- disk tells what it holds, so many calls of it were made, and of what is to be put out only what finds its lane full is
  -- dropped.
  pub record Takes (stamp : ℕ) (event : Event) (old new : NodeValue D) : Type 0 where
    pub came : Came
    pub trail : new.trail ≡ old.trail ++ entry_by stamp event came ∷ []
    pub short : IsShortOutcome came.outcome
    pub keeps : KeepsNode old new
    pub same_mets : mets new.outs ≡ mets old.outs
    pub arms : arms_under new.disk ≡ arms_under old.disk
    pub calls : is_told old.disk ≡ true
        → MayCall (capacity_of old.layout) old.catalog old.site old.trail new.trail (calls_under old.disk) (calls_under new.disk)
    pub drops : is_told old.disk ≡ true → MayDrop old.catalog old.site (met_to old.outs) old.trail new.trail

-- ---- a site with its trail and its lanes, by its parts

pub record NodeParts (D : Type 0) (g : Ghosts D) : Type 0 where
  pub engine : Engine D g
  pub trail : List Entry
  pub clock : ℕ
  pub outs : List Sending

-- whatever its disk tells
pub record IsNode {D : Type 0} {g : Ghosts D} (catalog : Catalog) (layout : Layout) (i : SiteId)
    (node : NodeParts D g) : Type 0 where
  pub catalog_is : catalog_in node.engine ≡ catalog
  pub site : site_in node.engine ≡ i
  pub layout_is : layout_in node.engine ≡ layout
  pub begins : slice_get node.trail 0 ≡ Some opening
  pub last : node.clock ≡ clock (reverse node.trail)
  pub early : node.clock < 2 ^ 62
  pub rise : HaveRisingStamps (reverse node.trail)
  pub sized : All (λ e. IsSized catalog.sites e.came) node.trail
  pub put : HavePut catalog.sites node.trail node.outs
  pub faults : IfSome (disk_in node.engine) (λ disk.
      count_by (λ e. is_faulty e.came.outcome) node.trail ≤ (g.known disk).faults)

-- where its disk tells what it holds: the site stands as its trail says, and the trail is right
pub record IsKnownNode {D : Type 0} {g : Ghosts D} (catalog : Catalog) (layout : Layout) (i : SiteId)
    (node : NodeParts D g) : Type 0 where
  pub stands : Stands node.engine (standing catalog i (reverse node.trail))
  pub right : IsRightTrail catalog layout i node.trail

-- so it is of the node's own site
pub record IsWhole {D : Type 0} (g : Ghosts D) (node : NodeParts D g) : Type 0 where
  pub is : IsNode (catalog_in node.engine) (layout_in node.engine) (site_in node.engine) node
  pub known : is_told g (disk_in node.engine) ≡ true
      → IsKnownNode (catalog_in node.engine) (layout_in node.engine) (site_in node.engine) node

-- what contracts see of it, where there is memory for so many more entries
abbrev pub seen : {D : Type 0} {g : Ghosts D} → ℕ → NodeParts D g → NodeValue D
seen room node = record {
  catalog = catalog_in node.engine;
  site = site_in node.engine;
  layout = layout_in node.engine;
  disk = disk_in node.engine;
  trail = node.trail;
  outs = node.outs;
  room = room;
}
