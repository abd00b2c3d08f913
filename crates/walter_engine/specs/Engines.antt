-- How an engine stands: what is known of its disk, and of the site on it.
use Rattle.std.specs.Prelude.{◌≡◌, ◌==◌, if◌then◌else◌, ℕ, Bool, Option, IfSome}
use Rattle.walter_base.specs.declared.catalog.Catalog.{Catalog}
use Rattle.walter_base.specs.declared.format.Format.{Format}
use Rattle.walter_base.specs.declared.names.SiteId.{SiteId}
use Rattle.walter_checkpoint.specs.Areas.{Shape, shape_by}
use Rattle.walter_disk.specs.declared.disk.Disk.{Ghosts}
use Rattle.walter_engine.specs.declared.engine.Engine.{Engine}
use Rattle.walter_engine.specs.Contents.{AreSpelled}
use Rattle.walter_engine.specs.Stores.{disk_under, IsStored}
use Rattle.walter_machine.specs.Machines.{HasStanding}
use Rattle.walter_machine.specs.Machines as machine
use Rattle.walter_rules.specs.Layouts.{Layout, one_area, two_areas, header_of}
use Rattle.walter_rules.specs.Standing.{Standing, unmade}
use Rattle.walter_tables.specs.declared.tables.Tables.{Tables}

abbrev pub catalog_in : {D : Type 0} {g : Ghosts D} → Engine D g → Catalog
catalog_in engine = machine.catalog_in engine.machine

abbrev pub site_in : {D : Type 0} {g : Ghosts D} → Engine D g → SiteId
site_in engine = machine.site_in engine.machine

abbrev pub capacity_in : {D : Type 0} {g : Ghosts D} → Engine D g → ℕ
capacity_in engine = engine.capacity

-- the layout that a new journal gets, of so many areas and with such a header
abbrev pub layout_for : (areas capacity sites : ℕ) → Format → Layout
layout_for areas capacity sites header = if areas == 2 then two_areas capacity sites header else one_area capacity header

-- how its journal is laid out: as it was asked for, or, once the site has begun, as it was found
abbrev pub layout_in : {D : Type 0} {g : Ghosts D} → Engine D g → Layout
layout_in engine = layout_for engine.areas engine.capacity (catalog_in engine).sites engine.format

abbrev pub shape_in : {D : Type 0} {g : Ghosts D} → Engine D g → Shape
shape_in engine = shape_by engine.capacity (catalog_in engine).sites engine.format

-- the disk, under a book or bare
abbrev pub disk_in : {D : Type 0} {g : Ghosts D} → Engine D g → Option D
disk_in engine = disk_under engine.book engine.disk

-- what a site keeps that is up
abbrev pub tables_in : {D : Type 0} {g : Ghosts D} → Engine D g → Option Tables
tables_in engine = machine.tables_in engine.machine

abbrev pub is_up : {D : Type 0} {g : Ghosts D} → Engine D g → Bool
is_up engine = machine.is_up engine.machine

-- nothing has happened to the site
abbrev pub IsFresh : {D : Type 0} {g : Ghosts D} → Engine D g → Type 0
IsFresh engine = HasStanding engine.machine unmade

-- of the disk P holds
abbrev pub OfDisk : {D : Type 0} {g : Ghosts D} → Engine D g → (D → Type 0) → Type 0
OfDisk engine P = IfSome (disk_in engine) P

-- of the disk before and after R holds
abbrev pub OfDisks : {D : Type 0} {g : Ghosts D} → (old new : Engine D g) → (D → D → Type 0) → Type 0
OfDisks old new R = OfDisk old (λ before. OfDisk new (λ after. R before after))

-- the engine stands so
pub record Stands {D : Type 0} {g : Ghosts D} (engine : Engine D g) (S : Standing) : Type 0 where
  pub machine : HasStanding engine.machine S
  pub spellings : AreSpelled (header_of (layout_in engine)) (catalog_in engine).sites S
  pub stored : IsStored (layout_in engine) S engine.book engine.disk

-- of the same site
pub record IsOfSameSite {D : Type 0} {g : Ghosts D} (old new : Engine D g) : Type 0 where
  pub catalog : catalog_in new ≡ catalog_in old
  pub site : site_in new ≡ site_in old
  pub capacity : capacity_in new ≡ capacity_in old

-- and its journal is laid out as before
pub record IsSameEngine {D : Type 0} {g : Ghosts D} (old new : Engine D g) : Type 0 where
  pub catalog : catalog_in new ≡ catalog_in old
  pub site : site_in new ≡ site_in old
  pub capacity : capacity_in new ≡ capacity_in old
  pub layout : layout_in new ≡ layout_in old
