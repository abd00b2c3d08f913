-- A site with its trail and its lanes, and what contracts see of it.
use Rattle.std.proofs.Common.{◌≡◌, ◌<◌, ◌+◌, ◌^◌, ◌++◌, ◌∷◌, [], ℕ, List, length, reverse, true, Option, Some, None, is_some, refl, ap, sym, ◌∙◌, subst}
use Rattle.std.specs.Prelude.{IfSome, IsSome, OnOk, OnErr, Result, Ok, Err, ◌≤◌}
use Rattle.walter_base.specs.declared.catalog.Catalog.{Catalog}
use Rattle.walter_base.specs.declared.names.SiteId.{SiteId}
use Rattle.walter_disk.specs.Disks.{DiskState, armed_at}
use Rattle.walter_disk.specs.declared.disk.Disk.{Ghosts}
use Rattle.walter_engine.proofs.Resting.{leaves_bodies, may_have}
use Rattle.walter_engine.specs.Contents.{HasBodies, MayHaveRecords, spelled}
use Rattle.walter_engine.specs.Engines.{catalog_in, site_in, layout_in, disk_in, IsSameEngine, Stands}
use Rattle.walter_engine.specs.Stores.{disk_under, IsStored}
use Rattle.walter_engine.specs.declared.engine.Engine.{Engine}
use Rattle.walter_checkpoint.specs.declared.book.Book.{Book}
use Rattle.walter_lane.specs.Lanes.{Sending}
use Rattle.walter_outbox.specs.Lanes.{HavePut, out_rings, mets, met_to}
use Rattle.walter_rules.specs.declared.entry.Came.{Came}
use Rattle.walter_rules.specs.declared.event.Event.{Event}
use Rattle.walter_rules.specs.Layouts.{Layout, header_of}
use Rattle.walter_rules.specs.Standing.{Standing}
use Rattle.walter_rules.specs.Trails.{standing}
use Rattle.walter_site.specs.Members.{IsShortOutcome}
use Rattle.walter_cell.specs.Nodes.{NodeParts, NodeValue, IsNode, IsKnownNode, IsSameButDisk, IsWhole, IsSound, is_told, arms_under, calls_under, capacity_of, seen, entry_by, MayCall, MayDrop, Takes}
use Rattle.walter_cell.proofs.Nodes.{has_disk}

-- what holds of both disks, holds of them in other words
pub of_both : {D : Type 0} (P Q : D → D → Type 0) → ((a b : D) → P a b → Q a b) → (x y : Option D)
    → IfSome x (λ a. IfSome y (λ b. P a b)) → IfSome x (λ a. IfSome y (λ b. Q a b))
of_both P Q by None y holds = tt
of_both P Q by (Some a) None holds = tt
of_both P Q by (Some a) (Some b) holds = by a b holds

module _ {D : Type 0} (g : Ghosts D) where
  -- what is known of a disk of which a call keeps it
  pub told_both : (old new : Option D) → is_some old ≡ true → is_some new ≡ true
      → IfSome old (λ x. IfSome new (λ y. is_some (g.known y).reads ≡ is_some (g.known x).reads))
      → is_told g new ≡ is_told g old
  told_both None new here there both = absurd cc
  told_both (Some x) None here there both = absurd cc
  told_both (Some x) (Some y) here there both = both

  pub arms_both : (old new : Option D) → is_some old ≡ true → is_some new ≡ true
      → IfSome old (λ x. IfSome new (λ y. (g.known y).arms ≡ (g.known x).arms))
      → arms_under g new ≡ arms_under g old
  arms_both None new here there both = absurd cc
  arms_both (Some x) None here there both = absurd cc
  arms_both (Some x) (Some y) here there both = both

  -- what an arm leaves as it was, whether the disk was armed or not
  pub armed_or_not : {X E : Type 0} (r : Result X E) (nth choice : ℕ) (x y : Option D)
      → OnOk r (IfSome x (λ a. IfSome y (λ b. g.known b ≡ armed_at (g.device_calls a) nth choice (g.known a))))
      → OnErr r (IfSome x (λ a. IfSome y (λ b. g.known b ≡ g.known a)))
      → IfSome x (λ a. IfSome y (λ b. ((g.known b).faults ≡ (g.known a).faults) × (is_some (g.known b).reads ≡ is_some (g.known a).reads)))
  armed_or_not (Ok done) nth choice x y armed same =
      of_both _ _ (λ a b is. (ap (λ (d : DiskState). d.faults) is, ap (λ (d : DiskState). is_some d.reads) is)) x y armed
  armed_or_not (Err failed) nth choice x y armed same =
      of_both _ _ (λ a b is. (ap (λ (d : DiskState). d.faults) is, ap (λ (d : DiskState). is_some d.reads) is)) x y same

  faults_kept : (n : ℕ) (x y : Option D) → is_some x ≡ true → IfSome x (λ a. IfSome y (λ b. (g.known b).faults ≡ (g.known a).faults))
      → IfSome x (λ d. n ≤ (g.known d).faults) → IfSome y (λ d. n ≤ (g.known d).faults)
  faults_kept n None y there same most = absurd cc
  faults_kept n (Some a) None there same most = tt
  faults_kept n (Some a) (Some b) there same most = subst (λ m. n ≤ m) (sym same) most

  told_some : (o : Option D) → is_told g o ≡ true → IfSome o (λ disk. IsSome (g.known disk).reads)
  told_some None told = tt
  told_some (Some disk) told = told

module _ {D : Type 0} {g : Ghosts D} where
  -- what a crash may leave of the disk of a site that stands so
  leaves_stored : (layout : Layout) (S : Standing) (book : Option (Book D g)) (bare : Option D) → IsStored layout S book bare
      → IfSome (disk_under book bare) (λ disk. (image : List ℕ) → g.may_leave disk image → MayHaveRecords layout S.records S.flight image)
  leaves_stored layout S None None is = tt
  leaves_stored layout S (Some book) bare is = λ image left.
      may_have layout S.records S.flight image
      (subst (λ (l : Layout). HasBodies l image (spelled (header_of layout) S.records)) is.laid
      (leaves_bodies g book (spelled (header_of layout) S.records) is.stands image left))
  leaves_stored layout S None (Some disk) is = is.images

  -- a site with its trail and its lanes is sound
  pub sound_of : (room : ℕ) (n : NodeParts D g) → IsWhole g n → IsSound g (seen room n)
  sound_of room n whole = record {
    begins = whole.is.begins;
    early = subst (λ m. m < 2 ^ 62) whole.is.last whole.is.early;
    rise = whole.is.rise;
    sized = whole.is.sized;
    put = whole.is.put;
    faults = whole.is.faults;
    right = λ told. (whole.known told).right;
    leaves = λ told. leaves_stored _ _ n.engine.book n.engine.disk (whole.known told).stands.stored;
  }

  -- the same but for what its lanes know
  pub whole_lanes : (old : NodeParts D g) (outs : List Sending) → HavePut (catalog_in old.engine).sites old.trail outs
      → IsWhole g old → IsWhole g (record old { outs = outs })
  whole_lanes old outs put whole = record {
    is = let is = whole.is in record {
      catalog_is = refl;
      site = refl;
      layout_is = refl;
      begins = is.begins;
      last = is.last;
      early = is.early;
      rise = is.rise;
      sized = is.sized;
      put = put;
      faults = is.faults;
    };
    known = λ told. let known = whole.known told in record { stands = known.stands; right = known.right };
  }

  -- a site's own parts
  pub whole_of : (catalog : Catalog) (layout : Layout) (i : SiteId) (node : NodeParts D g) → IsNode catalog layout i node
      → (is_told g (disk_in node.engine) ≡ true → IsKnownNode catalog layout i node) → IsWhole g node
  whole_of catalog layout i node is known = record {
    is = subst (λ (k : Catalog). IsNode k (layout_in node.engine) (site_in node.engine) node) (sym is.catalog_is)
        (subst (λ (l : Layout). IsNode catalog l (site_in node.engine) node) (sym is.layout_is)
        (subst (λ (j : SiteId). IsNode catalog layout j node) (sym is.site) is));
    known = λ told. subst (λ (k : Catalog). IsKnownNode k (layout_in node.engine) (site_in node.engine) node) (sym is.catalog_is)
        (subst (λ (l : Layout). IsKnownNode catalog l (site_in node.engine) node) (sym is.layout_is)
        (subst (λ (j : SiteId). IsKnownNode catalog layout j node) (sym is.site) (known told)));
  }

  -- the same over an engine that stands as the one before, and whose disk failed as often and tells as much
  pub whole_over : (old : NodeParts D g) (engine : Engine D g) → IsSameEngine old.engine engine
      → ((S : Standing) → Stands old.engine S → Stands engine S)
      → IfSome (disk_in old.engine) (λ a. IfSome (disk_in engine) (λ b.
      ((g.known b).faults ≡ (g.known a).faults) × (is_some (g.known b).reads ≡ is_some (g.known a).reads)))
      → IsWhole g old → IsWhole g (record old { engine = engine })
  whole_over old engine same stands kept whole =
      let told = told_both g (disk_in old.engine) (disk_in engine) (has_disk old.engine) (has_disk engine) (of_both _ _ (λ a b both. both.1) (disk_in old.engine) (disk_in engine) kept) in
      whole_of (catalog_in old.engine) (layout_in old.engine) (site_in old.engine) (record old { engine = engine }) (record {
        catalog_is = same.catalog;
        site = same.site;
        layout_is = same.layout;
        begins = whole.is.begins;
        last = whole.is.last;
        early = whole.is.early;
        rise = whole.is.rise;
        sized = whole.is.sized;
        put = whole.is.put;
        faults = faults_kept g _ (disk_in old.engine) (disk_in engine) (has_disk old.engine)
            (of_both _ _ (λ a b both. both.0) (disk_in old.engine) (disk_in engine) kept) whole.is.faults;
      }) (λ now. let known = whole.known (sym told ∙ now) in record {
        stands = stands (standing (catalog_in old.engine) (site_in old.engine) (reverse old.trail)) known.stands;
        right = known.right;
      })

  -- what contracts see of it then
  pub seen_over : (old : NodeParts D g) (engine : Engine D g) (room : ℕ) → IsSameEngine old.engine engine
      → IsSameButDisk (seen room old) (seen room (record old { engine = engine }))
  seen_over old engine room same =
      let new : NodeValue D = record (seen room old) { disk = disk_in engine } in
      ap (λ (c : Catalog). record new { catalog = c; site = site_in engine; layout = layout_in engine }) same.catalog
      ∙ (ap (λ (i : SiteId). record new { site = i; layout = layout_in engine }) same.site
      ∙ ap (λ (l : Layout). record new { layout = l }) same.layout)

  -- where a call keeps what is told of the disk, it told as much before
  pub told_before : (old new : Engine D g) → IfSome (disk_in old) (λ a. IfSome (disk_in new) (λ b. is_some (g.known b).reads ≡ is_some (g.known a).reads))
      → is_told g (disk_in new) ≡ true → is_told g (disk_in old) ≡ true
  told_before old new kept told = sym (told_both g (disk_in old) (disk_in new) (has_disk old) (has_disk new) kept) ∙ told

  pub reads_before : (old new : Engine D g) → IfSome (disk_in old) (λ a. IfSome (disk_in new) (λ b. is_some (g.known b).reads ≡ is_some (g.known a).reads))
      → is_told g (disk_in new) ≡ true → IfSome (disk_in old) (λ disk. IsSome (g.known disk).reads)
  reads_before old new kept told = told_some g (disk_in old) (told_before old new kept told)

  -- what an event does to a site with its trail and its lanes, as contracts see it
  pub takes_of : (old new : NodeParts D g) (before after : ℕ) (stamp : ℕ) (event : Event) (came : Came)
      → new.trail ≡ old.trail ++ entry_by stamp event came ∷ [] → length old.trail + before ≤ length new.trail + after → IsShortOutcome came.outcome → IsSameEngine old.engine new.engine
      → IfSome (disk_in old.engine) (λ a. IfSome (disk_in new.engine) (λ b. is_some (g.known b).reads ≡ is_some (g.known a).reads))
      → IfSome (disk_in old.engine) (λ a. IfSome (disk_in new.engine) (λ b. (g.known b).arms ≡ (g.known a).arms))
      → out_rings new.outs ≡ out_rings old.outs → mets new.outs ≡ mets old.outs
      → (is_told g (disk_in old.engine) ≡ true → MayCall (capacity_of (layout_in old.engine)) (catalog_in old.engine) (site_in old.engine) old.trail new.trail
      (calls_under g (disk_in old.engine)) (calls_under g (disk_in new.engine)))
      → (is_told g (disk_in old.engine) ≡ true → MayDrop (catalog_in old.engine) (site_in old.engine) (met_to old.outs) old.trail new.trail)
      → Takes g stamp event (seen before old) (seen after new)
  takes_of old new before after stamp event came grown places short same tells arms rings ms calls drops = record {
    came = came;
    trail = grown;
    short = short;
    keeps = record {
      catalog = same.catalog;
      site = same.site;
      layout = same.layout;
      told = told_both g (disk_in old.engine) (disk_in new.engine) (has_disk old.engine) (has_disk new.engine) tells;
      rings = rings;
      places = places;
    };
    same_mets = ms;
    arms = arms_both g (disk_in old.engine) (disk_in new.engine) (has_disk old.engine) (has_disk new.engine) arms;
    calls = calls;
    drops = drops;
  }
