use Rattle.std.proofs.Common.{◌≡◌, ◌≤◌, ◌++◌, ◌∷◌, [], ℕ, List, Some, Option, Result, refl, ap, sym, ◌∙◌, subst}
use Rattle.std.specs.Prelude.{IfSome}
use Rattle.walter_base.specs.declared.catalog.Catalog.{Catalog}
use Rattle.walter_base.specs.declared.format.Format.{Format}
use Rattle.walter_base.specs.declared.names.SiteId.{SiteId}
use Rattle.walter_base.specs.Sizes.{most_in}
use Rattle.walter_checkpoint.specs.Areas.{Shape, shape_by}
use Rattle.walter_disk.specs.declared.disk.Disk.{Ghosts}
use Rattle.walter_engine.specs.Begins.{HasOnly, IsLaidOver}
use Rattle.walter_engine.specs.Engines.{catalog_in, site_in, capacity_in, layout_for, layout_in, shape_in, disk_in, IsFresh, IsOfSameSite, Stands}
use Rattle.walter_engine.specs.declared.answers.BeginFault.{BeginFault}
use Rattle.walter_engine.specs.declared.engine.Engine.{Engine}
use Rattle.walter_rules.specs.declared.entry.Entry.{Entry}
use Rattle.walter_rules.specs.Layouts.{Layout}
use Rattle.walter_rules.specs.Trails.{opening, standing}
use Rattle.walter_cell.specs.Builds.{Begins, IsNewEngine, IsOfCapacity, calls_once_begun}
use Rattle.walter_cell.proofs.Nodes.{has_disk}
use Rattle.walter_cell.proofs.Openings.{begins_by, calls_here, has_place, known_built, layout_same, node_built, shape_same, to_found, told_here}
use Rattle.walter_cell.proofs.Wholes.{whole_of, reads_before}
use Rattle.walter_cell.proofs.node.Node.begin.Goals as goal

opened : (entries none : List Entry) (first : Entry) → entries ≡ none ++ first ∷ [] → none ≡ [] → first ≡ opening → entries ≡ opening ∷ []
opened entries none first is empty same = is ∙ (ap (λ (es : List Entry). es ++ first ∷ []) empty ∙ ap (λ (e : Entry). e ∷ []) same)

-- the engine, as it was made
module _ {D : Type 0} {g : Ghosts D} (catalog : Catalog) (capacity areas : ℕ) (header : Format) (i : SiteId) (disk : D)
    (lent made : Engine D g) (is : lent ≡ made) (new : IsNewEngine catalog capacity areas header i disk made) where
  disk_is : disk_in lent ≡ Some disk
  disk_is = ap (λ (e : Engine D g). disk_in e) is ∙ new.disk_is

  catalog_is : catalog_in lent ≡ catalog
  catalog_is = ap (λ (e : Engine D g). catalog_in e) is ∙ new.catalog_is

  site_is : site_in lent ≡ i
  site_is = ap (λ (e : Engine D g). site_in e) is ∙ new.site

  capacity_is : capacity_in lent ≡ capacity
  capacity_is = ap (λ (e : Engine D g). capacity_in e) is ∙ new.capacity_is

  areas_are : lent.areas ≡ areas
  areas_are = ap (λ (e : Engine D g). e.areas) is ∙ new.areas_are

  header_is : lent.format ≡ header
  header_is = ap (λ (e : Engine D g). e.format) is ∙ new.header_is

  sites_are : (catalog_in lent).sites ≡ catalog.sites
  sites_are = ap (λ (k : Catalog). k.sites) catalog_is

  -- what is told by how it was made
  begins_as : {N : Type 0} (disk_of : N → Option D) (r : Result N (D × BeginFault))
      → Begins g disk_of (shape_in lent) lent.areas disk r
      → Begins g disk_of (shape_by capacity catalog.sites header) areas disk r
  begins_as disk_of r begins =
      subst (λ (s : Shape). Begins g disk_of s areas disk r) (shape_same _ _ _ _ _ _ capacity_is sites_are header_is)
      (subst (λ (n : ℕ). Begins g disk_of (shape_in lent) n disk r) areas_are begins)

  laid_as : (bytes : List ℕ) (found : Layout) → IsLaidOver bytes (layout_in lent) found
      → IsLaidOver bytes (layout_for areas capacity catalog.sites header) found
  laid_as bytes found laid =
      subst (λ (l : Layout). IsLaidOver bytes l found) (layout_same areas _ _ _ _ _ _ capacity_is sites_are header_is)
      (subst (λ (n : ℕ). IsLaidOver bytes (layout_for n lent.capacity (catalog_in lent).sites lent.format) found) areas_are laid)

  calls_as : (now : Option D)
      → IfSome (disk_in lent) (λ x. IfSome now (λ y. g.device_calls y ≡ calls_once_begun g (shape_in lent) lent.areas x))
      → IfSome (disk_in lent) (λ x. IfSome now (λ y. g.device_calls y ≡ calls_once_begun g (shape_by capacity catalog.sites header) areas x))
  calls_as now calls =
      subst (λ (s : Shape). IfSome (disk_in lent) (λ x. IfSome now (λ y. g.device_calls y ≡ calls_once_begun g s areas x)))
      (shape_same _ _ _ _ _ _ capacity_is sites_are header_is)
      (subst (λ (n : ℕ). IfSome (disk_in lent) (λ x. IfSome now (λ y. g.device_calls y ≡ calls_once_begun g (shape_in lent) n x))) areas_are calls)

  -- and of the same site behind its first restart
  module _ (engine : Engine D g) (same : IsOfSameSite lent engine) where
    sized_as : IsOfCapacity capacity catalog.sites (layout_in engine)
    sized_as = (
      engine.areas,
      engine.format,
      subst (λ (n : ℕ). n ≤ most_in engine.format) (ap (λ (k : Catalog). k.sites) (same.catalog ∙ catalog_is)) engine.most,
      layout_same engine.areas _ _ _ _ _ _ (same.capacity ∙ capacity_is)
          (ap (λ (k : Catalog). k.sites) (same.catalog ∙ catalog_is)) refl,
    )

pub returns-in-Err-clause-begins : goal.returns-in-Err-clause-begins
returns-in-Err-clause-begins g c =
    let lent = c.deref_mut.result.now in
    let made = c.in_ok-engine.ensures.ok in
    let new = disk_in c.begin.new.self in
    let back : Some c.into_disk.result ≡ new = c.into_disk.ensures ∙ ap (λ (e : Engine g.row.D.Denot g.D.Disk). disk_in e) c.into_inner.ensures in
    begins_as c.args.catalog.now c.args.capacity c.args.areas c.args.format c.args.site c.args.disk lent _ c.deref_mut.ensures.value made _ _
    (begins_by g.D.Disk g.met.D.Disk.counts_now _ (shape_in lent) lent.areas c.args.disk _ c.begin.result (disk_in lent) new
    (disk_is c.args.catalog.now c.args.capacity c.args.areas c.args.format c.args.site c.args.disk lent _ c.deref_mut.ensures.value made) (sym c.in-Err.is)
    (λ P holds. subst (λ (o : Option g.row.D.Denot). IfSome o P) (sym back) holds)
    c.begin.ensures.begins c.begin.ensures.any_moment c.begin.ensures.faults c.begin.ensures.at_most c.begin.ensures.arms)

pub returns-clause-begins : goal.returns-clause-begins
returns-clause-begins g c =
    let lent = c.deref_mut.result.now in
    let made = c.in_ok-engine.ensures.ok in
    begins_as c.args.catalog.now c.args.capacity c.args.areas c.args.format c.args.site c.args.disk lent _ c.deref_mut.ensures.value made _ _
    (begins_by g.D.Disk g.met.D.Disk.counts_now _ (shape_in lent) lent.areas c.args.disk _ c.begin.result (disk_in lent)
    (disk_in c.begin.new.self)
    (disk_is c.args.catalog.now c.args.capacity c.args.areas c.args.format c.args.site c.args.disk lent _ c.deref_mut.ensures.value made)
    (sym c.in_default-begin.is) (λ P holds. holds)
    c.begin.ensures.begins c.begin.ensures.any_moment c.begin.ensures.faults c.begin.ensures.at_most c.begin.ensures.arms)

pub returns-clause-opens : goal.returns-clause-opens
returns-clause-opens g c =
    let lent = c.deref_mut.result.now in
    let made = c.in_ok-engine.ensures.ok in
    let engine = c.begin.new.self in
    let same = c.begin.ensures.engine in
    let catalog = c.args.catalog.now in
    let lent_is = disk_is catalog c.args.capacity c.args.areas c.args.format c.args.site c.args.disk lent _ c.deref_mut.ensures.value made in
    record {
      catalog_is = same.catalog ∙ catalog_is catalog c.args.capacity c.args.areas c.args.format c.args.site c.args.disk lent _ c.deref_mut.ensures.value made;
      sized = sized_as catalog c.args.capacity c.args.areas c.args.format c.args.site c.args.disk lent _ c.deref_mut.ensures.value made engine same;
      laid = λ bytes only.
          laid_as catalog c.args.capacity c.args.areas c.args.format c.args.site c.args.disk lent _ c.deref_mut.ensures.value made bytes (layout_in engine)
          ((rw c.in_default-begin.is at c.begin.ensures.laid) bytes (to_found (disk_in lent) c.args.disk (HasOnly g.D.Disk bytes) lent_is only));
      site = same.site ∙ site_is catalog c.args.capacity c.args.areas c.args.format c.args.site c.args.disk lent _ c.deref_mut.ensures.value made;
      trail = opened _ _ _ c.push_reserved.ensures.items c.in-Ok.ensures.entries c.opening_of.ensures;
      outs_are = refl;
      there = has_disk engine;
      calls = calls_here g.D.Disk (shape_by c.args.capacity catalog.sites c.args.format) c.args.areas (disk_in lent) (disk_in engine) c.args.disk lent_is (has_disk engine)
          (calls_as catalog c.args.capacity c.args.areas c.args.format c.args.site c.args.disk lent _ c.deref_mut.ensures.value made (disk_in engine)
          (rw c.in_default-begin.is at c.begin.ensures.device));
      told = told_here g.D.Disk (disk_in lent) (disk_in engine) c.args.disk lent_is (has_disk engine) c.begin.ensures.tells;
    }

pub invariant_of-result : goal.invariant_of-result
invariant_of-result g c =
    let is : c.push_reserved.new.self.items ≡ opening ∷ [] = opened _ _ _ c.push_reserved.ensures.items c.in-Ok.ensures.entries c.opening_of.ensures in
    let lent = c.deref_mut.result.now in
    let engine = c.begin.new.self in
    let made = c.in_ok-engine.ensures.ok in
    let same = c.begin.ensures.engine in
    let to = c.args.catalog.now in
    let catalog : catalog_in engine ≡ to =
    same.catalog ∙ catalog_is to c.args.capacity c.args.areas c.args.format c.args.site c.args.disk lent _ c.deref_mut.ensures.value made in
    let site : site_in engine ≡ c.args.site =
    same.site ∙ site_is to c.args.capacity c.args.areas c.args.format c.args.site c.args.disk lent _ c.deref_mut.ensures.value made in
    let capacity : engine.capacity ≡ c.args.capacity =
    same.capacity ∙ capacity_is to c.args.capacity c.args.areas c.args.format c.args.site c.args.disk lent _ c.deref_mut.ensures.value made in
    let layout = layout_in engine in
    whole_of to layout c.args.site _ (node_built to layout c.args.site _ is catalog site refl refl c.requires.lanes c.requires.empty)
    (λ told.
    let fresh : IsFresh lent = subst (λ (e : Engine g.row.D.Denot g.D.Disk). IsFresh e) (sym c.deref_mut.ensures.value) made.fresh in
    let stands = (rw c.in_default-begin.is at c.begin.ensures.stands) fresh (reads_before lent engine c.begin.ensures.tells told) in
    known_built to layout c.args.site _ is
    (has_place engine.areas engine.capacity (catalog_in engine).sites engine.format engine.laid (subst (λ (n : ℕ). 19 ≤ n) (sym capacity) c.requires.place))
    (subst (λ (k : Catalog). Stands engine (standing k c.args.site (opening ∷ []))) (sym same.catalog ∙ catalog)
    (subst (λ (i : SiteId). Stands engine (standing (catalog_in lent) i (opening ∷ []))) (sym same.site ∙ site) stands)))
