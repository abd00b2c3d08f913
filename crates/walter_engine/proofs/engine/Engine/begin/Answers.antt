use Rattle.std.proofs.Common.{◌≡◌, ℕ, ◌+◌, ◌≤◌, [], length, List, Err, map, Bool, Option, Some, refl, sym, ◌∙◌, subst, ap, arith}
use Rattle.std.specs.Prelude.{IfSome, IsSome, is_some}
use Rattle.walter_base.specs.Sizes.{most_in}
use Rattle.walter_engine.specs.Contents.{headed}
use Rattle.walter_engine.specs.Engines.{layout_for}
use Rattle.walter_engine.specs.Stores.{book_if, disk_if, layout_by, layout_of}
use Rattle.walter_checkpoint.specs.Areas.{Shape, shape_by}
use Rattle.walter_checkpoint.specs.Books.{areas_of, disk_of, shape_of, StandsFor}
use Rattle.walter_checkpoint.specs.Faults.{HasCause}
use Rattle.walter_checkpoint.specs.Loads.{new_size, calls_of_load}
use Rattle.walter_disk.specs.Images.{Only, LeavesOnly}
use Rattle.walter_machine.specs.Machines.{catalog_in, tables_in}
use Rattle.walter_base.specs.declared.catalog.Catalog.{Catalog}
use Rattle.walter_rules.specs.Layouts.{Layout}
use Rattle.walter_engine.proofs.Firsts.{begun_unloaded, unbegun_faults, begun_over, has_place, on_ok_so, on_begun, size_here, leaves_load, content_or_new, laid_over, leaves_begun}
use Rattle.walter_engine.proofs.Laid.{found_is}
use Rattle.walter_engine.proofs.Loads.{stands_left}
use Rattle.walter_engine.proofs.Resting.{disk_bare}
use Rattle.walter_engine.proofs.Taking.{none_of}
use Rattle.walter_engine.proofs.engine.Engine.begin.Goals as goal
use Rattle.walter_engine.specs.Begins.{HasOnly, IsBegun, IsFaultOfBegin, IsLaidOver}
use Rattle.walter_engine.specs.declared.answers.BeginFault.{BeginFault}

pub returns-in-Err : goal.returns-in-Err
returns-in-Err g c =
    let was = sym c.replace.ensures.value ∙ c.in-Some.is in
    let closed = c.args.self.now.«open» ∙ c.requires.down in
    let before = disk_bare g.D.Disk c.args.self.now.book c.args.self.now.disk closed ∙ was in
    let now = disk_bare g.D.Disk c.args.self.now.book (Some c.in-Err.disk) closed in
    let load = c.in-Err.ensures in
    let shape = shape_by c.args.self.now.capacity (catalog_in c.args.self.now.machine).sites c.args.self.now.format in
    let same_shape = ap (λ n. shape_by c.args.self.now.capacity n c.args.self.now.format) c.sites-sites.ensures in
    let cause = subst (λ (n : ℕ). HasCause c.args.self.now.capacity n c.in-Err.fault (g.D.Disk.may_leave c.in-Some.disk) (g.D.Disk.known c.in-Some.disk) (g.D.Disk.known c.in-Err.disk)) c.sites-sites.ensures load.cause in
    let first = subst (λ (s : Shape). (g.D.Disk.known c.in-Some.disk).size ≡ 0 → Only [] (g.D.Disk.may_leave c.in-Some.disk) → LeavesOnly g.D.Disk.moment g.D.Disk.left_since c.in-Some.disk c.in-Err.disk (λ image. length image ≤ new_size s c.args.self.now.areas)) same_shape load.first in
    record {
      up = c.requires.down;
      stands = λ fresh told. tt;
      begins = λ bytes only.
          let here = subst (λ (o : Option g.row.D.Denot). IfSome o (HasOnly g.D.Disk bytes)) before only in
          subst (λ (f : BeginFault). IsBegun shape bytes (Err f)) (sym c.not_loaded.ensures)
          (begun_unloaded shape c.in-Err.fault bytes _ _ _ cause here.only (size_here {g = g.D.Disk} g.met.D.Disk.size_is shape c.args.self.now.areas c.in-Some.disk c.in-Err.disk bytes here first load.any_moment)
          (load.tells ∙ ap is_some here.told));
      any_moment = λ bytes only.
          let here = subst (λ (o : Option g.row.D.Denot). IfSome o (HasOnly g.D.Disk bytes)) before only in
          rw (before, now) (leaves_load {g = g.D.Disk} g.met.D.Disk.size_is shape c.args.self.now.areas c.in-Some.disk c.in-Err.disk bytes here first load.any_moment);
      faults = rw (before, now)
          (subst (λ (f : BeginFault). IsFaultOfBegin (Err f) (g.D.Disk.known c.in-Some.disk).faults (g.D.Disk.known c.in-Err.disk).faults) (sym c.not_loaded.ensures)
          (unbegun_faults shape.capacity shape.sites c.in-Err.fault _ _ _ cause));
      laid = λ bytes only. tt;
      device = tt;
      at_most = rw (before, now) (subst (λ (s : Shape). g.D.Disk.device_calls c.in-Err.disk ≤ g.D.Disk.device_calls c.in-Some.disk + calls_of_load s c.args.self.now.areas (g.D.Disk.known c.in-Some.disk).size + 4) same_shape (omega (arith, load.at_most)));
      arms = rw (before, now) load.arms;
      tells = rw (before, now) load.tells;
      engine = record { catalog = refl; site = refl; capacity = refl };
    }

pub begin_over-begun-requires-clause-down : goal.begin_over-begun-requires-clause-down
begin_over-begun-requires-clause-down g c =
    none_of (tables_in c.args.self.now.machine) c.requires.down

pub begin_over-begun-requires-clause-place : goal.begin_over-begun-requires-clause-place
begin_over-begun-requires-clause-place g c =
    let load = c.in-Ok.ensures in
    let place : 19 ≤ (shape_of c.in-Ok.loaded.0).capacity = omega (arith, c.requires.place, ap (λ (s : Shape). s.capacity) load.shape) in
    has_place (shape_of c.in-Ok.loaded.0) c.in-Ok.loaded.0.live place (λ two. (load.room.two two).least)

pub begin_over-begun-requires-clause-sites : goal.begin_over-begun-requires-clause-sites
begin_over-begun-requires-clause-sites g c = ap (λ (s : Shape). s.sites) c.in-Ok.ensures.shape ∙ c.sites-sites.ensures

pub returns : goal.returns
returns g c =
    let was = sym c.replace.ensures.value ∙ c.in-Some.is in
    let closed = c.args.self.now.«open» ∙ c.requires.down in
    let before = disk_bare g.D.Disk c.args.self.now.book c.args.self.now.disk closed ∙ was in
    let load = c.in-Ok.ensures in
    let shape = shape_by c.args.self.now.capacity (catalog_in c.args.self.now.machine).sites c.args.self.now.format in
    let same_shape = ap (λ n. shape_by c.args.self.now.capacity n c.args.self.now.format) c.sites-sites.ensures in
    let header = (shape_of c.in-Ok.loaded.0).header in
    let shape_is = load.shape ∙ ap (λ n. shape_by c.args.self.now.capacity n header) c.sites-sites.ensures in
    let places = subst (λ n. n ≤ most_in header) c.sites-sites.ensures load.places in
    let slice = map (λ body. body.items) c.as_slice.result.now in
    let asked = layout_for c.args.self.now.areas c.args.self.now.capacity (catalog_in c.args.self.now.machine).sites c.args.self.now.format in
    let first = subst (λ (s : Shape). (g.D.Disk.known c.in-Some.disk).size ≡ 0 → Only [] (g.D.Disk.may_leave c.in-Some.disk) → LeavesOnly g.D.Disk.moment g.D.Disk.left_since c.in-Some.disk (disk_of c.in-Ok.loaded.0) (λ image. length image ≤ new_size s c.args.self.now.areas)) same_shape load.first in
    let calls : g.D.Disk.device_calls (disk_of c.in-Ok.loaded.0) ≡ g.D.Disk.device_calls c.in-Some.disk + calls_of_load shape c.args.self.now.areas (g.D.Disk.known c.in-Some.disk).size =
    subst (λ (s : Shape). g.D.Disk.device_calls (disk_of c.in-Ok.loaded.0) ≡ g.D.Disk.device_calls c.in-Some.disk + calls_of_load s c.args.self.now.areas (g.D.Disk.known c.in-Some.disk).size) same_shape load.device in
    let begun = c.begin_over-begun.ensures in
    let found : layout_for c.areas-self.result c.args.self.now.capacity (catalog_in c.begin_over-begun.new.machine).sites c.format-self.result ≡ layout_of c.in-Ok.loaded.0 =
    ap (λ n. layout_for n c.args.self.now.capacity (catalog_in c.begin_over-begun.new.machine).sites c.format-self.result) c.areas-self.ensures
    ∙ ap (λ (x : Catalog). layout_for (areas_of c.in-Ok.loaded.0.live) c.args.self.now.capacity x.sites c.format-self.result) begun.same.catalog
    ∙ ap (λ h. layout_for (areas_of c.in-Ok.loaded.0.live) c.args.self.now.capacity (catalog_in c.args.self.now.machine).sites h) c.format-self.ensures
    ∙ found_is (headed header shape) c.in-Ok.loaded.0.live
    ∙ sym (ap (λ (s : Shape). layout_by s c.in-Ok.loaded.0.live) shape_is) in
    let loaded : IsSome (g.D.Disk.known c.in-Some.disk).reads → StandsFor {g = g.D.Disk} c.in-Ok.loaded.0 (map (λ body. body.items) c.as_slice.result.now) =
    λ told. subst (λ (b : List (List ℕ)). StandsFor {g = g.D.Disk} c.in-Ok.loaded.0 b) (sym c.as_slice.ensures) (load.loaded told) in
    record {
      up = begun.up;
      stands = λ fresh told.
          let here = subst (λ (o : Option g.row.D.Denot). IfSome o (λ d. IsSome (g.D.Disk.known d).reads)) before told in
          on_ok_so c.begin_over-begun.result _ _ (λ left. stands_left {g = g.D.Disk} _ _ c.begin_over-begun.new.book (layout_of c.in-Ok.loaded.0) found left
          (c.close_unless.ensures.book ∙ ap (λ (b : Bool). book_if b c.begin_over-begun.new.book) c.is_up.ensures)
          (c.close_unless.ensures.bare ∙ ap (λ (b : Bool). disk_if {g = g.D.Disk} b c.begin_over-begun.new.book) c.is_up.ensures))
          (begun.stands fresh (loaded here));
      begins = λ bytes only.
          let here = subst (λ (o : Option g.row.D.Denot). IfSome o (HasOnly g.D.Disk bytes)) before only in
          begun_over shape bytes slice _
          (content_or_new {g = g.D.Disk} g.met.D.Disk.size_is shape c.args.self.now.areas c.in-Some.disk c.in-Ok.loaded.0 shape_is places (λ new. (load.made new).1) c.in-Ok.loaded.1 slice bytes here (loaded (ap is_some here.told))
          c.as_slice.ensures load.fresh load.image) begun.begins;
      any_moment = λ bytes only.
          let here = subst (λ (o : Option g.row.D.Denot). IfSome o (HasOnly g.D.Disk bytes)) before only in
          let stands = loaded (ap is_some here.told) in
          rw (before, c.close_unless.ensures.same)
          (leaves_begun {g = g.D.Disk} g.met.D.Disk.size_is shape c.args.self.now.areas c.in-Some.disk c.in-Ok.loaded.0 shape_is places (λ new. (load.made new).1) c.in-Ok.loaded.1 slice bytes here stands
          c.as_slice.ensures load.fresh load.image (disk_of c.begin_over-begun.new.book)
          (leaves_load {g = g.D.Disk} g.met.D.Disk.size_is shape c.args.self.now.areas c.in-Some.disk (disk_of c.in-Ok.loaded.0) bytes here first load.any_moment)
          (begun.any_moment stands));
      laid = λ bytes only.
          let here = subst (λ (o : Option g.row.D.Denot). IfSome o (HasOnly g.D.Disk bytes)) before only in
          on_begun slice c.begin_over-begun.result _ begun.begins (λ none.
          subst (λ (l : Layout). IsLaidOver bytes asked l) (sym found)
          (laid_over {g = g.D.Disk} g.met.D.Disk.size_is shape c.args.self.now.areas c.in-Some.disk c.in-Ok.loaded.0 shape_is places (λ new. (load.made new).1) c.in-Ok.loaded.1 slice bytes here (loaded (ap is_some here.told))
          c.as_slice.ensures load.fresh load.image asked none
          (λ new. ap (λ (s : Shape). layout_by s c.in-Ok.loaded.0.live) shape_is
          ∙ sym (found_is (headed header shape) c.in-Ok.loaded.0.live)
          ∙ ap (λ n. layout_for n shape.capacity shape.sites header) (load.made new).0
          ∙ ap (λ h. layout_for c.args.self.now.areas shape.capacity shape.sites h) (load.made new).1)));
      faults = rw (before, c.close_unless.ensures.same)
          (subst (λ (n : ℕ). IsFaultOfBegin c.begin_over-begun.result n (g.D.Disk.known (disk_of c.begin_over-begun.new.book)).faults) load.faultless begun.faults);
      device =
          let old = g.D.Disk.device_calls c.in-Some.disk in
          let new = g.D.Disk.device_calls (disk_of c.begin_over-begun.new.book) in
          rw (before, c.close_unless.ensures.same)
          (on_ok_so c.begin_over-begun.result _ (new ≡ old + calls_of_load shape c.args.self.now.areas (g.D.Disk.known c.in-Some.disk).size + 4)
          (λ more. omega (arith, more, calls)) begun.device);
      at_most = rw (before, c.close_unless.ensures.same) (omega (arith, begun.at_most, calls));
      arms = rw (before, c.close_unless.ensures.same) (begun.arms ∙ load.arms);
      tells = rw (before, c.close_unless.ensures.same) (begun.tells ∙ load.tells);
      engine = record { catalog = begun.same.catalog; site = begun.same.id; capacity = refl };
    }
