use Rattle.std.proofs.Common.{◌≡◌, ◌≤◌, ◌<◌, ◌+◌, ◌^◌, [], ℕ, List, map, Bool, Option, Some, refl, sym, ◌∙◌, subst, ap, inl, arith}
use Rattle.std.specs.Prelude.{IfSome, IsSome}
use Rattle.walter_base.specs.declared.catalog.Catalog.{Catalog}
use Rattle.walter_disk.specs.Images.{LeavesOnly}
use Rattle.walter_base.specs.declared.format.Format.{Format}
use Rattle.walter_base.specs.Sizes.{most_in}
use Rattle.walter_engine.specs.Contents.{AreSpelled, headed, MayHaveNext}
use Rattle.walter_engine.specs.Stores.{book_if, disk_if, IsStored}
use Rattle.walter_machine.specs.Machines.{catalog_in, site_in, tables_in}
use Rattle.walter_rules.specs.declared.entry.Came.{Came}
use Rattle.walter_rules.specs.declared.event.Event.TheVariants.{Restart}
use Rattle.walter_rules.specs.declared.outcome.Outcome.{Outcome}
use Rattle.walter_rules.specs.Trails.{only}
use Rattle.std.proofs.lemmas.List.{length-map}
use Rattle.walter_disk.proofs.Moments.{weaker}
use Rattle.walter_engine.proofs.Loads.{there_loaded, found_there, lies_settled, come_raised, come_unloaded, leaves_loaded, refused_loaded, refused_unloaded, restarts_loaded, restarts_unloaded, unloaded_is, unloaded_faults, calls_of_restart, packs_are}
use Rattle.walter_engine.proofs.Raising.{has_cause}
use Rattle.walter_engine.proofs.Resting.{disk_bare, on_bare, stored_bare, rests_on}
use Rattle.walter_engine.proofs.Taking.{same_parts, is_full, stands_same}
use Rattle.walter_engine.proofs.Written.{state_up, faults_as, sized_as}
use Rattle.walter_engine.proofs.engine.Engine.restart.Goals as goal
use Rattle.walter_engine.specs.Effects.{IsRefusedFor}
use Rattle.walter_engine.specs.Raises.{Raises, unloaded_by}
use Rattle.walter_engine.specs.Restarts.{ComesOf, left_over}
use Rattle.walter_engine.specs.declared.answers.RefusedRestart.{RefusedRestart}
use Rattle.walter_checkpoint.specs.Areas.{Shape, shape_by}
use Rattle.walter_checkpoint.specs.Books.{disk_of, shape_of, StandsFor}
use Rattle.walter_checkpoint.specs.Faults.{HasCause}
use Rattle.walter_checkpoint.specs.Loads.{calls_of_load}
use Rattle.walter_engine.specs.Engines.{layout_for}
use Rattle.walter_engine.specs.Raises.{calls_before}
use Rattle.walter_engine.specs.Stores.{layout_by, layout_of}
use Rattle.walter_engine.proofs.Laid.{for_is, found_is}
use Rattle.walter_rules.specs.Layouts.{header_of}
use Rattle.walter_machine.proofs.Sizes.{sized_only}
use Rattle.walter_machine.specs.Comings.{is_faulty, IsFaulty, IsSized}
use Rattle.walter_machine.specs.Machines.{AreFound}
use Rattle.walter_packet.specs.Framed.{frame_of}
use Rattle.walter_rules.specs.Records.{IsRecordAmong}
use Rattle.walter_rules.specs.Sending.{Send}
use Rattle.walter_rules.specs.Standing.{settled}

pub returns-in-Err : goal.returns-in-Err
returns-in-Err g c =
    let was = sym c.replace.ensures.value ∙ c.in-Some.is in
    let closed = c.args.self.now.«open» ∙ c.requires.down in
    let before = disk_bare g.D.Disk c.args.self.now.book c.args.self.now.disk closed ∙ was in
    let now = disk_bare g.D.Disk c.args.self.now.book (Some c.in-Err.disk) closed in
    let law = c.books_differ.ensures in
    let load = c.in-Err.ensures in
    let shape = shape_by c.args.self.now.capacity (catalog_in c.args.self.now.machine).sites c.args.self.now.format in
    let layout = layout_for c.args.self.now.areas c.args.self.now.capacity (catalog_in c.args.self.now.machine).sites c.args.self.now.format in
    let for_ = for_is c.args.self.now.areas c.args.self.now.capacity (catalog_in c.args.self.now.machine).sites c.args.self.now.format in
    let same_shape = ap (λ n. shape_by c.args.self.now.capacity n c.args.self.now.format) c.sites-sites.ensures in
    let low : c.args.self.now.capacity < 2 ^ 64 = omega arith in
    let cause = subst (λ (n : ℕ). HasCause c.args.self.now.capacity n c.in-Err.fault (g.D.Disk.may_leave c.in-Some.disk) (g.D.Disk.known c.in-Some.disk) (g.D.Disk.known c.in-Err.disk)) c.sites-sites.ensures load.cause in
    let is_came = c.rest.ensures.came ∙ ap (λ (p : Outcome × Option RefusedRestart). only p.0) c.unloaded-outcome.ensures in
    let is_why = ap (λ (p : Outcome × Option RefusedRestart). p.1) c.unloaded-outcome.ensures in
    record {
      taken =
          record {
            comes = λ S stands.
                let resting = on_bare g.D.Disk layout S c.args.self.now.book c.in-Some.disk closed
                (subst (λ o. IsStored {g = g.D.Disk} layout S c.args.self.now.book o) was stands.stored) in
                let down = state_up S (tables_in c.args.self.now.machine) stands.machine.state ∙ c.requires.down in
                let still = rests_on g.D.Disk g.met.D.Disk.size_is g.met.D.Disk.counts_now layout S c.in-Some.disk c.in-Err.disk resting load.tells
                (load.settled resting.begun) (load.any_moment resting.begun) in
                come_unloaded {g = g.D.Disk} shape (λ bytes bodies. law.content_or_foreign shape bytes bodies c.args.self.now.most)
                (λ bytes bodies at claimed. law.content_or_damaged shape.capacity shape.sites shape.header bytes bodies at claimed low) layout for_ S c.in-Some.disk c.in-Err.disk resting load.tells
                (catalog_in c.args.self.now.machine) (site_in c.args.self.now.machine) c.in-Err.fault c.rest.new.came _ _ down cause is_came is_why
                (stands_same {g = g.D.Disk} _ (catalog_in c.args.self.now.machine) (site_in c.args.self.now.machine) S Restart c.rest.new.came (c.rest.ensures.stands S stands.machine down) layout refl stands.spellings (stored_bare g.D.Disk layout S c.args.self.now.book c.in-Err.disk closed still) closed
                (ap (λ (x : Came). x.wrote) is_came) (ap (λ (x : Came). x.flight) is_came)
                (ap (λ (x : Came). is_full x.outcome) is_came ∙ (unloaded_is c.in-Err.fault).2));
            any_moment = λ S stands.
                let resting = on_bare g.D.Disk layout S c.args.self.now.book c.in-Some.disk closed
                (subst (λ o. IsStored {g = g.D.Disk} layout S c.args.self.now.book o) was stands.stored) in
                let down = state_up S (tables_in c.args.self.now.machine) stands.machine.state ∙ c.requires.down in
                rw (before, now)
                (weaker g.D.Disk.moment g.D.Disk.left_since c.in-Some.disk c.in-Err.disk (g.D.Disk.may_leave c.in-Some.disk) (MayHaveNext (catalog_in c.args.self.now.machine) layout (site_in c.args.self.now.machine) S Restart c.rest.new.came.kept)
                (λ image left. inl (resting.images image left)) (load.any_moment resting.begun));
            refused = rw now
                (subst (λ (w : Option RefusedRestart). IfSome (g.D.Disk.known c.in-Err.disk).reads (λ bytes. IfSome w (IsRefusedFor (catalog_in c.args.self.now.machine) shape (site_in c.args.self.now.machine) bytes)))
                (sym is_why) (refused_unloaded (catalog_in c.args.self.now.machine) shape (site_in c.args.self.now.machine) c.in-Err.fault _ _ _ cause));
            why = λ refused. subst (λ (w : Option RefusedRestart). IsSome w) (sym is_why)
                ((unloaded_is c.in-Err.fault).3 (sym (ap (λ (x : Came). x.outcome) is_came) ∙ refused));
            sized = sized_as _ c.rest.new.came _ is_came (sized_only _ (unloaded_by c.in-Err.fault).0 (unloaded_is c.in-Err.fault).1);
            framed =
                let none : map (λ (s : Send). frame_of (catalog_in c.args.self.now.machine).sites s.1) c.rest.new.came.sends ≡ [] = ap (λ (x : Came). map (λ (s : Send). frame_of (catalog_in c.args.self.now.machine).sites s.1) x.sends) is_came in
                cc;
            none_dropped = ap (λ (x : Came). x.dropped) is_came;
            faults = rw (before, now) (faults_as c.rest.new.came _ _ _ (ap (λ (x : Came). is_faulty x.outcome) is_came)
                (unloaded_faults shape.capacity shape.sites c.in-Err.fault _ _ _ cause));
            arms = rw (before, now) load.arms;
            tells = rw (before, now) load.tells;
            engine = record { catalog = refl; site = refl; capacity = refl; layout = refl };
          };
      loads =
          rw (before, now) (record {
            pack = 0;
            packs = inl refl;
            calls = record {
              all = rw (ap (λ (x : Came). x.wrote) is_came) tt;
              at_most = subst (λ (s : Shape). g.D.Disk.device_calls c.in-Err.disk ≤ g.D.Disk.device_calls c.in-Some.disk + (calls_of_load s c.args.self.now.areas (g.D.Disk.known c.in-Some.disk).size + 0) + 4) same_shape (omega (arith, load.at_most));
            };
          });
      restarts =
          rw before (restarts_unloaded g.D.Disk g.met.D.Disk.size_is (catalog_in c.args.self.now.machine) shape layout (site_in c.args.self.now.machine) c.in-Err.fault
          c.in-Some.disk c.in-Err.disk c.rest.new.came _ c.in-Err.ensures.tells cause (ap (λ (x : Came). x.outcome) is_came) is_why);
    }

pub returns : goal.returns
returns g c =
    let was = sym c.replace.ensures.value ∙ c.in-Some.is in
    let closed = c.args.self.now.«open» ∙ c.requires.down in
    let before = disk_bare g.D.Disk c.args.self.now.book c.args.self.now.disk closed ∙ was in
    let law = c.books_differ.ensures in
    let load = c.in-Ok.ensures in
    let shape = shape_by c.args.self.now.capacity (catalog_in c.args.self.now.machine).sites c.args.self.now.format in
    let layout = layout_for c.args.self.now.areas c.args.self.now.capacity (catalog_in c.args.self.now.machine).sites c.args.self.now.format in
    let for_ = for_is c.args.self.now.areas c.args.self.now.capacity (catalog_in c.args.self.now.machine).sites c.args.self.now.format in
    let same_shape = ap (λ n. shape_by c.args.self.now.capacity n c.args.self.now.format) c.sites-sites.ensures in
    let low : c.args.self.now.capacity < 2 ^ 64 = omega arith in
    let header = (shape_of c.in-Ok.loaded.0).header in
    let shape_is = load.shape ∙ ap (λ n. shape_by c.args.self.now.capacity n header) c.sites-sites.ensures in
    let places = subst (λ n. n ≤ most_in header) c.sites-sites.ensures load.places in
    let one_content = λ (h other : Format) (bytes : List ℕ) (a b : List (List ℕ)). law.content shape.capacity shape.sites h other bytes a b low in
    let same_layout : layout_for c.args.self.now.areas c.args.self.now.capacity (catalog_in c.raise-refused.new.machine).sites c.args.self.now.format ≡ layout =
    ap (λ (x : Catalog). layout_for c.args.self.now.areas c.args.self.now.capacity x.sites c.args.self.now.format) (c.raise-refused.ensures.same.catalog ∙ c.settle-kept.ensures.same.catalog) in
    let bodies = map (λ body. body.items) c.as_slice-bodies.result.now in
    let before_record = calls_before {g = g.D.Disk} c.in-Ok.loaded.0 bodies in
    let loads : g.D.Disk.device_calls (disk_of c.in-Ok.loaded.0) ≡ g.D.Disk.device_calls c.in-Some.disk + calls_of_load shape c.args.self.now.areas (g.D.Disk.known c.in-Some.disk).size =
    subst (λ (s : Shape). g.D.Disk.device_calls (disk_of c.in-Ok.loaded.0) ≡ g.D.Disk.device_calls c.in-Some.disk + calls_of_load s c.args.self.now.areas (g.D.Disk.known c.in-Some.disk).size) same_shape load.device in
    let is_bodies = c.as_slice-bodies.ensures in
    let over = same_parts (λ x k. ComesOf (header_of (layout_of c.in-Ok.loaded.0)) x k (left_over (layout_of c.in-Ok.loaded.0) bodies) (map (λ body. body.items) c.as_slice-bodies.result.now) c.raise-refused.new.came.wrote c.raise-refused.result c.raise-refused.new.came.outcome)
    (catalog_in c.settle-kept.new.self) (catalog_in c.args.self.now.machine) (site_in c.settle-kept.new.self) (site_in c.args.self.now.machine) (sym c.settle-kept.ensures.same.catalog) (sym c.settle-kept.ensures.same.id)
    c.raise-refused.ensures.over in
    record {
      taken =
          record {
            comes = λ S stands.
                let resting = on_bare g.D.Disk layout S c.args.self.now.book c.in-Some.disk closed
                (subst (λ o. IsStored {g = g.D.Disk} layout S c.args.self.now.book o) was stands.stored) in
                let down = state_up S (tables_in c.args.self.now.machine) stands.machine.state ∙ c.requires.down in
                let one = subst (λ (b : List (List ℕ)). StandsFor {g = g.D.Disk} c.in-Ok.loaded.0 b) (sym c.as_slice-bodies.ensures) (load.loaded resting.told) in
                let there = there_loaded {g = g.D.Disk} shape one_content layout for_ S c.in-Some.disk c.in-Ok.loaded.0 shape_is bodies resting (load.image resting.begun) one in
                let count = length-map c.as_slice-bodies.result.now (λ body. body.items) in
                let settles = c.settle-kept.ensures.settles S stands.machine (subst (λ (n : ℕ). AreFound S n) count (found_there (header_of layout) S (map (λ body. body.items) c.as_slice-bodies.result.now) there)) in
                let lies = lies_settled {g = g.D.Disk} shape one_content layout for_ S c.in-Some.disk c.in-Ok.loaded.0 shape_is bodies resting (load.image resting.begun) one (catalog_in c.settle-kept.new.self) (site_in c.settle-kept.new.self) c.settle-kept.result
                (subst (λ (x : Catalog). AreSpelled (header_of layout) x.sites S) (sym c.settle-kept.ensures.same.catalog) stands.spellings) down settles.stands.told
                settles.is_found (count ∙ settles.count) in
                let raises = c.raise-refused.ensures.raises layout (settled (catalog_in c.settle-kept.new.self) (site_in c.settle-kept.new.self) c.settle-kept.result S) lies settles.stands (settles.counted ∙ settles.count) in
                let book_is = c.close_unless.ensures.book ∙ ap (λ (b : Bool). book_if b c.raise-refused.new.book) c.is_up.ensures in
                let disk_is = c.close_unless.ensures.bare ∙ ap (λ (b : Bool). disk_if {g = g.D.Disk} b c.raise-refused.new.book) c.is_up.ensures in
                let here = same_parts (λ x k. Raises {g = g.D.Disk} x layout k (settled x k c.settle-kept.result S) c.raise-refused.new.came c.raise-refused.result c.raise-refused.new.machine c.raise-refused.new.book) (catalog_in c.settle-kept.new.self) (catalog_in c.args.self.now.machine) (site_in c.settle-kept.new.self) (site_in c.args.self.now.machine) (sym c.settle-kept.ensures.same.catalog) (sym c.settle-kept.ensures.same.id)
                raises in
                come_raised {g = g.D.Disk} (catalog_in c.args.self.now.machine) layout (site_in c.args.self.now.machine) S c.settle-kept.result c.raise-refused.new.came c.raise-refused.result _ c.raise-refused.new.book same_layout settles.is_found here book_is disk_is;
            any_moment = λ S stands.
                let resting = on_bare g.D.Disk layout S c.args.self.now.book c.in-Some.disk closed
                (subst (λ o. IsStored {g = g.D.Disk} layout S c.args.self.now.book o) was stands.stored) in
                let down = state_up S (tables_in c.args.self.now.machine) stands.machine.state ∙ c.requires.down in
                let one = subst (λ (b : List (List ℕ)). StandsFor {g = g.D.Disk} c.in-Ok.loaded.0 b) (sym c.as_slice-bodies.ensures) (load.loaded resting.told) in
                let there = there_loaded {g = g.D.Disk} shape one_content layout for_ S c.in-Some.disk c.in-Ok.loaded.0 shape_is bodies resting (load.image resting.begun) one in
                let count = length-map c.as_slice-bodies.result.now (λ body. body.items) in
                let settles = c.settle-kept.ensures.settles S stands.machine (subst (λ (n : ℕ). AreFound S n) count (found_there (header_of layout) S (map (λ body. body.items) c.as_slice-bodies.result.now) there)) in
                let lies = lies_settled {g = g.D.Disk} shape one_content layout for_ S c.in-Some.disk c.in-Ok.loaded.0 shape_is bodies resting (load.image resting.begun) one (catalog_in c.settle-kept.new.self) (site_in c.settle-kept.new.self) c.settle-kept.result
                (subst (λ (x : Catalog). AreSpelled (header_of layout) x.sites S) (sym c.settle-kept.ensures.same.catalog) stands.spellings) down settles.stands.told
                settles.is_found (count ∙ settles.count) in
                rw (before, c.close_unless.ensures.same)
                (same_parts (λ x k. LeavesOnly g.D.Disk.moment g.D.Disk.left_since c.in-Some.disk (disk_of c.raise-refused.new.book) (MayHaveNext x layout k S Restart c.settle-kept.result))
                (catalog_in c.settle-kept.new.self) (catalog_in c.args.self.now.machine) (site_in c.settle-kept.new.self) (site_in c.args.self.now.machine) (sym c.settle-kept.ensures.same.catalog) (sym c.settle-kept.ensures.same.id)
                (leaves_loaded {g = g.D.Disk} (catalog_in c.settle-kept.new.self) layout (site_in c.settle-kept.new.self) S c.settle-kept.result c.in-Some.disk c.in-Ok.loaded.0 (disk_of c.raise-refused.new.book) resting settles.is_found (load.any_moment resting.begun)
                (c.raise-refused.ensures.any_moment layout (settled (catalog_in c.settle-kept.new.self) (site_in c.settle-kept.new.self) c.settle-kept.result S) lies)));
            refused = rw c.close_unless.ensures.same
                (same_parts (λ x k. IfSome (g.D.Disk.known (disk_of c.raise-refused.new.book)).reads (λ bytes. IfSome c.raise-refused.result (IsRefusedFor x shape k bytes)))
                (catalog_in c.settle-kept.new.self) (catalog_in c.args.self.now.machine) (site_in c.settle-kept.new.self) (site_in c.args.self.now.machine) (sym c.settle-kept.ensures.same.catalog) (sym c.settle-kept.ensures.same.id)
                (refused_loaded {g = g.D.Disk} (catalog_in c.settle-kept.new.self) shape (site_in c.settle-kept.new.self) c.in-Some.disk (disk_of c.raise-refused.new.book) c.in-Ok.loaded.0 bodies c.raise-refused.result shape_is
                places
                (λ told. subst (λ (b : List (List ℕ)). StandsFor {g = g.D.Disk} c.in-Ok.loaded.0 b) (sym c.as_slice-bodies.ensures) (load.loaded told))
                load.tells c.raise-refused.ensures.refused));
            why = has_cause _ (catalog_in c.settle-kept.new.self) (site_in c.settle-kept.new.self) (left_over (layout_of c.in-Ok.loaded.0) bodies) (map (λ body. body.items) c.as_slice-bodies.result.now) c.raise-refused.new.came.wrote c.raise-refused.result c.raise-refused.new.came.outcome
                c.raise-refused.ensures.over;
            sized = subst (λ (x : Catalog). IsSized x.sites (record c.raise-refused.new.came { kept = c.settle-kept.result })) c.settle-kept.ensures.same.catalog
                (record { outcome = c.raise-refused.ensures.sized.outcome; kept = subst (λ (x : Catalog). IfSome c.settle-kept.result (IsRecordAmong x.sites)) (sym c.settle-kept.ensures.same.catalog) c.settle-kept.ensures.sized; wrote = c.raise-refused.ensures.sized.wrote; flight = c.raise-refused.ensures.sized.flight; sends = c.raise-refused.ensures.sized.sends });
            framed =
                let none : map (λ (s : Send). frame_of (catalog_in c.args.self.now.machine).sites s.1) c.raise-refused.new.came.sends ≡ [] = ap (λ (l : List Send). map (λ (s : Send). frame_of (catalog_in c.args.self.now.machine).sites s.1) l) c.raise-refused.ensures.none_sent in
                cc;
            none_dropped = c.raise-refused.ensures.none_dropped;
            faults = rw (before, c.close_unless.ensures.same)
                (subst (λ (n : ℕ). IsFaulty c.raise-refused.new.came n (g.D.Disk.known (disk_of c.raise-refused.new.book)).faults) load.faultless c.raise-refused.ensures.faults);
            arms = rw (before, c.close_unless.ensures.same) (c.raise-refused.ensures.arms ∙ load.arms);
            tells = rw (before, c.close_unless.ensures.same) (c.raise-refused.ensures.tells ∙ load.tells);
            engine = record {
              catalog = c.raise-refused.ensures.same.catalog ∙ c.settle-kept.ensures.same.catalog;
              site = c.raise-refused.ensures.same.id ∙ c.settle-kept.ensures.same.id;
              capacity = refl;
              layout = same_layout;
            };
          };
      loads = rw (before, c.close_unless.ensures.same) (record {
        pack = before_record;
        packs = packs_are {g = g.D.Disk} shape c.in-Ok.loaded.0 bodies shape_is;
        calls = record {
          all = calls_of_restart c.raise-refused.new.came.wrote _ before_record _ _ _ loads c.raise-refused.ensures.device.all;
          at_most = omega (arith, loads, c.raise-refused.ensures.device.at_most);
        };
      });
      restarts =
          rw before (restarts_loaded g.D.Disk g.met.D.Disk.size_is (catalog_in c.args.self.now.machine) shape layout (site_in c.args.self.now.machine) c.in-Some.disk c.in-Ok.loaded.0
          bodies (record c.raise-refused.new.came { kept = c.settle-kept.result }) c.raise-refused.result shape_is places
          (λ told. subst (λ (b : List (List ℕ)). StandsFor {g = g.D.Disk} c.in-Ok.loaded.0 b) (sym is_bodies) (load.loaded told))
          (λ size. is_bodies ∙ load.fresh size)
          (λ size. ap (λ (s : Shape). layout_by s c.in-Ok.loaded.0.live) shape_is
          ∙ sym (found_is (headed header shape) c.in-Ok.loaded.0.live)
          ∙ ap (λ n. layout_for n c.args.self.now.capacity (catalog_in c.args.self.now.machine).sites header) (load.made size).0
          ∙ ap (λ h. layout_for c.args.self.now.areas c.args.self.now.capacity (catalog_in c.args.self.now.machine).sites h) (load.made size).1)
          load.image over);
    }

pub raise-refused-requires-clause-sites : goal.raise-refused-requires-clause-sites
raise-refused-requires-clause-sites g c =
    ap (λ (s : Shape). s.sites) c.in-Ok.ensures.shape ∙ c.sites-sites.ensures ∙ sym (ap (λ (x : Catalog). x.sites) c.settle-kept.ensures.same.catalog)

pub raise-refused-requires-clause-most : goal.raise-refused-requires-clause-most
raise-refused-requires-clause-most g c =
    let here : c.sites-sites.result ≤ most_in (shape_of c.in-Ok.loaded.0).header = c.in-Ok.ensures.places in
    omega (arith, ap (λ (x : Catalog). x.sites) c.settle-kept.ensures.same.catalog, c.sites-sites.ensures, here)
