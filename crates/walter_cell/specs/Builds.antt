-- What the first restart of a site comes to.
use Rattle.std.specs.Prelude.{◌≡◌, ◌≤◌, ◌+◌, ℕ, List, [], ◌∷◌, Option, Some, true, false, Result, Ok, Err, IfSome, is_some}
use Rattle.walter_base.specs.declared.catalog.Catalog.{Catalog}
use Rattle.walter_base.specs.declared.format.Format.{Format}
use Rattle.walter_base.specs.declared.names.SiteId.{SiteId}
use Rattle.walter_base.specs.Sizes.{most_in}
use Rattle.walter_disk.specs.declared.disk.Disk.{Ghosts}
use Rattle.walter_engine.specs.declared.answers.BeginFault.{BeginFault}
use Rattle.walter_checkpoint.specs.Areas.{Shape, shape_by}
use Rattle.walter_checkpoint.specs.Loads.{calls_of_load}
use Rattle.walter_engine.specs.Begins.{HasOnly, IsBegun, IsFaultOfBegin, IsLaidOver, MayHaveBegun}
use Rattle.walter_engine.specs.Engines.{catalog_in, site_in, capacity_in, layout_for, disk_in, is_up, IsFresh}
use Rattle.walter_engine.specs.declared.engine.Engine.{Engine}
use Rattle.walter_lane.specs.Lanes.{Sending}
use Rattle.walter_rules.specs.Layouts.{Layout}
use Rattle.walter_rules.specs.Trails.{opening}
use Rattle.walter_cell.specs.Nodes.{NodeValue, calls_under, is_told}

-- what the first restart answered; where there was no memory before it, that
abbrev pub begun_by : {N D : Type 0} → Result N (D × BeginFault) → Result (Unit {0}) BeginFault
begun_by (Ok node) = Ok tt
begun_by (Err back) = Err back.1

-- a layout that a journal of so many bytes can have, at a site among so many
abbrev pub IsOfCapacity : (capacity sites : ℕ) → Layout → Type 0
IsOfCapacity capacity sites layout =
    (areas : ℕ) × (header : Format) × (sites ≤ most_in header) × (layout ≡ layout_for areas capacity sites header)

-- of the disk behind a building P holds, under the site or beside the fault
abbrev pub OfBuilt : {N D : Type 0} → (N → Option D) → Result N (D × BeginFault) → (D → Type 0) → Type 0
OfBuilt disk_of (Ok node) P = IfSome (disk_of node) P
OfBuilt disk_of (Err back) P = P back.0

module _ {D : Type 0} (g : Ghosts D) where
  -- how many calls of the disk were made once a site has begun over it: those from before, of the load, and of a record
  abbrev pub calls_once_begun : Shape → ℕ → D → ℕ
  calls_once_begun shape areas disk = g.device_calls disk + calls_of_load shape areas (g.known disk).size + 4

  -- what is answered, by the bytes that the disk had, where a crash left nothing else; and what one leaves then. The disk's
  -- faults rise exactly where a call of it failed, no more calls of it are made than that, and nothing is armed.
  pub record Begins {N : Type 0} (disk_of : N → Option D) (shape : Shape) (areas : ℕ) (disk : D)
      (result : Result N (D × BeginFault)) : Type 0 where
    pub begins : (bytes : List ℕ) → HasOnly g bytes disk → IsBegun shape bytes (begun_by result)
    pub leaves : (bytes : List ℕ) → HasOnly g bytes disk
        → OfBuilt disk_of result
        (λ now. (image : List ℕ) → g.may_leave now image → MayHaveBegun shape areas bytes image)
    pub faults : OfBuilt disk_of result (λ now.
        IsFaultOfBegin (begun_by result) (g.known disk).faults (g.known now).faults)
    pub calls : OfBuilt disk_of result (λ now. g.device_calls now ≤ calls_once_begun shape areas disk)
    pub arms : OfBuilt disk_of result (λ now. (g.known now).arms ≡ (g.known disk).arms)

  -- a site over this disk, up in its first epoch: its trail is the opening. Its journal is laid out in so many areas and has
  -- such a header, where the disk has no bytes, and else is as it was.
  pub record HasOpened (catalog : Catalog) (capacity areas : ℕ) (header : Format) (i : SiteId) (disk : D) (outs : List Sending)
      (node : NodeValue D) : Type 0 where
    pub catalog_is : node.catalog ≡ catalog
    pub sized : IsOfCapacity capacity catalog.sites node.layout
    pub laid : (bytes : List ℕ) → HasOnly g bytes disk
        → IsLaidOver bytes (layout_for areas capacity catalog.sites header) node.layout
    pub site : node.site ≡ i
    pub trail : node.trail ≡ opening ∷ []
    pub outs_are : node.outs ≡ outs
    pub there : is_some node.disk ≡ true
    pub calls : calls_under g node.disk ≡ calls_once_begun (shape_by capacity catalog.sites header) areas disk
    pub told : is_told g node.disk ≡ is_some (g.known disk).reads

-- a site that is down over this disk, to which nothing has happened
pub record IsNewEngine {D : Type 0} {g : Ghosts D} (catalog : Catalog) (capacity areas : ℕ) (header : Format) (i : SiteId) (disk : D)
    (engine : Engine D g) : Type 0 where
  pub disk_is : disk_in engine ≡ Some disk
  pub down : is_up engine ≡ false
  pub fresh : IsFresh engine
  pub catalog_is : catalog_in engine ≡ catalog
  pub site : site_in engine ≡ i
  pub capacity_is : capacity_in engine ≡ capacity
  pub areas_are : engine.areas ≡ areas
  pub header_is : engine.format ≡ header
