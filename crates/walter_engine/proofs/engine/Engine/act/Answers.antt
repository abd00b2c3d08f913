use Rattle.std.proofs.Common.{◌≡◌, ◌≤◌, [], ℕ, List, map, Bool, false, Option, Some, None, refl, sym, ◌∙◌, subst, ap, arith}
use Rattle.std.specs.Prelude.{IfSome, not}
use Rattle.walter_base.specs.declared.catalog.Catalog.{Catalog}
use Rattle.walter_base.specs.declared.format.Format.{Format}
use Rattle.walter_base.specs.Sizes.{most_in}
use Rattle.walter_base.specs.declared.message.Record.{Record}
use Rattle.walter_disk.specs.Images.{LeavesOnly}
use Rattle.walter_engine.specs.Contents.{AreSpelled, MayHaveNext}
use Rattle.walter_engine.specs.Engines.{layout_for, Stands}
use Rattle.walter_engine.specs.Writings.{IsFormatAt}
use Rattle.walter_engine.specs.Stores.{book_if, disk_if, disk_under, header_under, IsLeft, IsStored}
use Rattle.walter_checkpoint.specs.Books.{disk_of, shape_of}
use Rattle.walter_machine.specs.Machines.{catalog_in, site_in, tables_in}
use Rattle.walter_machine.specs.Readiness.{rec_in, IsReadyFor}
use Rattle.walter_rules.specs.declared.entry.Came.{Came}
use Rattle.walter_rules.specs.Standing.{Standing, stands_after}
use Rattle.walter_rules.specs.Trails.{Comes, TakesMemory, want}
use Rattle.walter_engine.proofs.Crashes.{unmoved_next}
use Rattle.walter_engine.proofs.Laid.{laid_as}
use Rattle.walter_engine.proofs.Loads.{stands_left, always}
use Rattle.walter_engine.proofs.Spelled.{enough_in, told_format}
use Rattle.walter_engine.proofs.Taking.{same_parts, come_as, stop_brings, counted_up, none_of}
use Rattle.walter_engine.proofs.Written.{state_up, want_is, unrefused, is_refusal, leaves_kept, ups_same, faults_as, calls_as, sized_as}
use Rattle.walter_engine.proofs.engine.Engine.act.Goals as goal
use Rattle.walter_machine.proofs.Sizes.{sized_only}
use Rattle.walter_machine.specs.Comings.{is_faulty, IsSized}
use Rattle.walter_packet.specs.Framed.{frame_of}
use Rattle.walter_rules.specs.Calls.{Expected}
use Rattle.walter_rules.specs.Layouts.{header_of, in_force, format_at}
use Rattle.walter_rules.specs.Rule.{rule}
use Rattle.walter_rules.specs.Sending.{Send}

pub returns-in_default-prepare : goal.returns-in_default-prepare
returns-in_default-prepare g c =
    let layout = layout_for c.args.self.now.areas c.args.self.now.capacity (catalog_in c.args.self.now.machine).sites c.args.self.now.format in
    let same_layout : layout_for c.args.self.now.areas c.args.self.now.capacity (catalog_in c.prepare.new.self).sites c.args.self.now.format ≡ layout =
    ap (λ (x : Catalog). layout_for c.args.self.now.areas c.args.self.now.capacity x.sites c.args.self.now.format) c.prepare.ensures.same.catalog in
    let was = c.in-Some.is in
    let before = ap (λ o. disk_under {g = g.D.Disk} o c.args.self.now.disk) was in
    let came = c.want.ensures.came in
    let free = c.in_default-prepare.ensures.free in
    record {
      taken =
          record {
            comes = λ S stands.
                let up = state_up S (tables_in c.args.self.now.machine) stands.machine.state in
                let takes = subst (λ (b : Bool). TakesMemory b c.args.event.now) (sym (up ∙ c.requires.up)) free in
                let standing = c.prepare.ensures.stands S stands.machine in
                let stored = subst (λ o. IsStored {g = g.D.Disk} layout S o c.args.self.now.disk) was stands.stored in
                let spelled = subst (λ (x : Catalog). AreSpelled (header_of layout) x.sites S) (sym c.prepare.ensures.same.catalog) stands.spellings in
                let left = leaves_kept {g = g.D.Disk} g.met.D.Disk.size_is (catalog_in c.prepare.new.self) layout (site_in c.prepare.new.self) S c.args.event.now spelled c.prepare.new.self refl c.want.new.came
                (c.want.ensures.stands S standing takes) c.in-Some.book stored (ups_same (catalog_in c.prepare.new.self) (site_in c.prepare.new.self) S c.args.event.now c.want.new.came (want c.args.event.now) (ap (λ (x : Came). x.outcome) came) ((want_is c.args.event.now).3 S.up)) (ap (λ (x : Came). x.wrote) came) (ap (λ (x : Came). x.flight) came) in
                let book_is = ap (λ (b : Bool). book_if b c.in-Some.book) (sym c.prepare.ensures.up) in
                let disk_is = none_of c.args.self.now.disk (c.args.self.now.bare ∙ ap not c.requires.up) ∙ ap (λ (b : Bool). disk_if {g = g.D.Disk} b c.in-Some.book) (sym c.prepare.ensures.up) in
                let comes = same_parts (λ x k. Comes x layout k S c.args.event.now c.want.new.came) (catalog_in c.prepare.new.self) (catalog_in c.args.self.now.machine) (site_in c.prepare.new.self) (site_in c.args.self.now.machine) (sym c.prepare.ensures.same.catalog) (sym c.prepare.ensures.same.id)
                (c.want.ensures.comes layout S takes) in
                let left_here = same_parts (λ x k. IsLeft {g = g.D.Disk} layout c.prepare.new.self (stands_after x k S c.args.event.now c.want.new.came) c.in-Some.book) (catalog_in c.prepare.new.self) (catalog_in c.args.self.now.machine) (site_in c.prepare.new.self) (site_in c.args.self.now.machine) (sym c.prepare.ensures.same.catalog) (sym c.prepare.ensures.same.id) left in
                come_as {g = g.D.Disk} (catalog_in c.args.self.now.machine) layout (site_in c.args.self.now.machine) S c.args.event.now c.want.new.came _ (ap (λ (x : Came). x.kept) came)
                (λ down restart. absurd (let e = sym (up ∙ c.requires.up) ∙ down in cc)) comes
                (stands_left {g = g.D.Disk} _ _ c.in-Some.book layout same_layout left_here book_is disk_is);
            any_moment = λ S stands.
                rw before
                (unmoved_next {g = g.D.Disk} g.met.D.Disk.only_now c.in-Some.book (catalog_in c.args.self.now.machine) layout (site_in c.args.self.now.machine) S c.args.event.now c.want.new.came.kept (subst (λ o. IsStored {g = g.D.Disk} layout S o c.args.self.now.disk) was stands.stored));
            refused = always (λ (bytes : List ℕ). Unit {0}) (g.D.Disk.known (disk_of c.in-Some.book)).reads (λ bytes. tt);
            why = λ refused. absurd (let e = sym (ap is_refusal refused) ∙ ap (λ (x : Came). is_refusal x.outcome) came ∙ (want_is c.args.event.now).1 in cc);
            sized = sized_as _ c.want.new.came _ came (sized_only _ (want c.args.event.now) (want_is c.args.event.now).2);
            framed =
                let none : map (λ (s : Send). frame_of (catalog_in c.args.self.now.machine).sites s.1) c.want.new.came.sends ≡ [] = ap (λ (x : Came). map (λ (s : Send). frame_of (catalog_in c.args.self.now.machine).sites s.1) x.sends) came in
                cc;
            none_dropped = ap (λ (x : Came). x.dropped) came;
            faults = rw before
                (faults_as c.want.new.came false _ _ (ap (λ (x : Came). is_faulty x.outcome) came ∙ (want_is c.args.event.now).0) refl);
            arms = rw before refl;
            tells = rw before refl;
            engine = record { catalog = c.prepare.ensures.same.catalog; site = c.prepare.ensures.same.id; capacity = refl; layout = same_layout };
          };
      device =
          rw before
          (calls_as c.want.new.came None None _ _ (ap (λ (x : Came). x.wrote) came) (ap (λ (x : Came). x.flight) came) refl);
      stops = λ stop. sym before;
      tidy = c.prepare.ensures.tidy;
    }

pub write-frames-requires-clause-room : goal.write-frames-requires-clause-room
write-frames-requires-clause-room g c down = absurd (let e = sym c.prepare.ensures.up ∙ down in cc)

pub write-frames-requires-clause-sites : goal.write-frames-requires-clause-sites
write-frames-requires-clause-sites g c =
    let places = subst (λ o. (catalog_in c.args.self.now.machine).sites ≤ most_in (header_under {g = g.D.Disk} o c.args.self.now.format)) c.in-Some.is c.args.self.now.places in
    subst (λ f. (catalog_in c.prepare.new.self).sites ≤ most_in f) (sym (c.later_of-format.ensures ∙ ap (λ h. in_force h c.format.result) c.format-header.ensures))
    (enough_in (shape_of c.in-Some.book).header c.format.result
    (omega (arith, ap (λ (x : Catalog). x.sites) c.prepare.ensures.same.catalog, places)))

pub returns : goal.returns
returns g c =
    let layout = layout_for c.args.self.now.areas c.args.self.now.capacity (catalog_in c.args.self.now.machine).sites c.args.self.now.format in
    let same_layout : layout_for c.args.self.now.areas c.args.self.now.capacity (catalog_in c.write-frames.new.machine).sites c.args.self.now.format ≡ layout =
    ap (λ (x : Catalog). layout_for c.args.self.now.areas c.args.self.now.capacity x.sites c.args.self.now.format) (c.write-frames.ensures.same.catalog ∙ c.prepare.ensures.same.catalog) in
    let was = c.in-Some.is in
    let before = ap (λ o. disk_under {g = g.D.Disk} o c.args.self.now.disk) was in
    let now = c.close_unless.ensures.same in
    -- the header is that of the book
    let first : (S : Standing) → Stands {g = g.D.Disk} c.args.self.now S → c.format-header.result ≡ header_of layout = λ S stands.
    c.format-header.ensures
    ∙ sym (laid_as {g = g.D.Disk} c.in-Some.book layout (subst (λ o. IsStored {g = g.D.Disk} layout S o c.args.self.now.disk) was stands.stored).laid) in
    -- the format of its record is the one in force
    let at : (S : Standing) → Stands {g = g.D.Disk} c.args.self.now S → IsFormatAt c.later_of-format.result layout S = λ S stands.
    c.later_of-format.ensures
    ∙ ap (in_force c.format-header.result) (c.format.ensures S stands.machine (state_up S (tables_in c.args.self.now.machine) stands.machine.state ∙ c.requires.up))
    ∙ told_format c.format-header.result (catalog_in c.args.self.now.machine) (site_in c.args.self.now.machine) S stands.machine.told
    ∙ ap (λ (h : Format). format_at h S.records) (first S stands) in
    record {
      taken =
          record {
            comes = λ S stands.
                let up = state_up S (tables_in c.args.self.now.machine) stands.machine.state in
                let standing = c.prepare.ensures.stands S stands.machine in
                let stored = subst (λ o. IsStored {g = g.D.Disk} layout S o c.args.self.now.disk) was stands.stored in
                let spelled = subst (λ (x : Catalog). AreSpelled (header_of layout) x.sites S) (sym c.prepare.ensures.same.catalog) stands.spellings in
                let ready_for = (same_parts (λ x k. IsReadyFor (header_of layout) x k (tables_in c.prepare.new.self) S c.args.event.now c.prepare.new.ready) (catalog_in c.args.self.now.machine) (catalog_in c.prepare.new.self) (site_in c.args.self.now.machine) (site_in c.prepare.new.self) c.prepare.ensures.same.catalog c.prepare.ensures.same.id
                (subst (λ (h : Format). IsReadyFor h (catalog_in c.args.self.now.machine) (site_in c.args.self.now.machine) (tables_in c.prepare.new.self) S c.args.event.now c.prepare.new.ready) (first S stands) (c.in-Ok.ensures.ready S stands.machine))) in
                let counted = counted_up c.prepare.new.self S (rec_in c.prepare.new.ready) (up ∙ c.requires.up) standing in
                let book_is = c.close_unless.ensures.book ∙ ap (λ (b : Bool). book_if b c.write-frames.new.book) c.is_up.ensures in
                let disk_is = c.close_unless.ensures.bare ∙ ap (λ (b : Bool). disk_if {g = g.D.Disk} b c.write-frames.new.book) c.is_up.ensures in
                let comes = same_parts (λ x k. Comes x layout k S c.args.event.now c.write-frames.new.came) (catalog_in c.prepare.new.self) (catalog_in c.args.self.now.machine) (site_in c.prepare.new.self) (site_in c.args.self.now.machine) (sym c.prepare.ensures.same.catalog) (sym c.prepare.ensures.same.id)
                (c.write-frames.ensures.comes layout S standing counted ready_for (at S stands) spelled stored) in
                let left = same_parts (λ x k. IsLeft {g = g.D.Disk} layout c.write-frames.new.machine (stands_after x k S c.args.event.now c.write-frames.new.came) c.write-frames.new.book) (catalog_in c.prepare.new.self) (catalog_in c.args.self.now.machine) (site_in c.prepare.new.self) (site_in c.args.self.now.machine) (sym c.prepare.ensures.same.catalog) (sym c.prepare.ensures.same.id)
                (c.write-frames.ensures.leaves layout S standing counted ready_for (at S stands) spelled stored) in
                come_as {g = g.D.Disk} (catalog_in c.args.self.now.machine) layout (site_in c.args.self.now.machine) S c.args.event.now c.write-frames.new.came _ c.write-frames.ensures.none_kept
                (λ down restart. absurd (let e = sym (up ∙ c.requires.up) ∙ down in cc)) comes
                (stands_left {g = g.D.Disk} _ _ c.write-frames.new.book layout same_layout left book_is disk_is);
            any_moment = λ S stands.
                let ready_for = (same_parts (λ x k. IsReadyFor (header_of layout) x k (tables_in c.prepare.new.self) S c.args.event.now c.prepare.new.ready) (catalog_in c.args.self.now.machine) (catalog_in c.prepare.new.self) (site_in c.args.self.now.machine) (site_in c.prepare.new.self) c.prepare.ensures.same.catalog c.prepare.ensures.same.id
                (subst (λ (h : Format). IsReadyFor h (catalog_in c.args.self.now.machine) (site_in c.args.self.now.machine) (tables_in c.prepare.new.self) S c.args.event.now c.prepare.new.ready) (first S stands) (c.in-Ok.ensures.ready S stands.machine))) in
                rw (before, c.close_unless.ensures.same)
                (same_parts (λ x k. LeavesOnly g.D.Disk.moment g.D.Disk.left_since (disk_of c.in-Some.book) (disk_of c.write-frames.new.book) (MayHaveNext x layout k S c.args.event.now c.write-frames.new.came.kept))
                (catalog_in c.prepare.new.self) (catalog_in c.args.self.now.machine) (site_in c.prepare.new.self) (site_in c.args.self.now.machine) (sym c.prepare.ensures.same.catalog) (sym c.prepare.ensures.same.id)
                (subst (λ (o : Option Record). LeavesOnly g.D.Disk.moment g.D.Disk.left_since (disk_of c.in-Some.book) (disk_of c.write-frames.new.book) (MayHaveNext (catalog_in c.prepare.new.self) layout (site_in c.prepare.new.self) S c.args.event.now o))
                (sym c.write-frames.ensures.none_kept) (c.write-frames.ensures.any_moment layout S ready_for (at S stands) (subst (λ o. IsStored {g = g.D.Disk} layout S o c.args.self.now.disk) was stands.stored))));
            refused = always (λ d. IfSome (g.D.Disk.known d).reads (λ bytes. Unit {0}))
                (disk_under c.close_unless.new.book c.close_unless.new.disk)
                (λ d. always (λ (bytes : List ℕ). Unit {0}) (g.D.Disk.known d).reads (λ bytes. tt));
            why = λ refused. absurd (let e = sym (ap is_refusal refused)
                ∙ unrefused _ _ _ _ c.args.event.now c.prepare.new.ready _ _ c.in-Ok.ensures.anyway c.write-frames.ensures.outcome in cc);
            sized = subst (λ (x : Catalog). IsSized x.sites c.write-frames.new.came) c.prepare.ensures.same.catalog c.write-frames.ensures.sized;
            framed = subst (λ (x : Catalog). c.write-frames.result.items ≡ map (λ (s : Send). frame_of x.sites s.1) c.write-frames.new.came.sends)
                c.prepare.ensures.same.catalog c.write-frames.ensures.framed;
            none_dropped = c.write-frames.ensures.none_dropped;
            faults = rw (before, c.close_unless.ensures.same) c.write-frames.ensures.faults;
            arms = rw (before, c.close_unless.ensures.same) c.write-frames.ensures.arms;
            tells = rw (before, c.close_unless.ensures.same) c.write-frames.ensures.tells;
            engine = record {
              catalog = c.write-frames.ensures.same.catalog ∙ c.prepare.ensures.same.catalog;
              site = c.write-frames.ensures.same.id ∙ c.prepare.ensures.same.id;
              capacity = refl;
              layout = same_layout;
            };
          };
      device = rw (before, c.close_unless.ensures.same) c.write-frames.ensures.device;
      stops = λ stop.
          let none = ap (λ (e : Expected). e.wrote) c.in-Ok.ensures.anyway.ready_for.rule
          ∙ ap (λ e. (rule c.in-Ok.ensures.anyway.header (catalog_in c.args.self.now.machine) (site_in c.args.self.now.machine) c.in-Ok.ensures.anyway.S e).wrote) stop ∙ stop_brings c.in-Ok.ensures.anyway.header (catalog_in c.args.self.now.machine) (site_in c.args.self.now.machine) c.in-Ok.ensures.anyway.S in
          now ∙ ap Some (c.write-frames.ensures.untouched none) ∙ sym before;
      tidy = λ tick. c.write-frames.ensures.tidy tick (c.prepare.ensures.tidy tick);
    }
