use Rattle.std.proofs.Common.{◌≡◌, ◌<◌, ◌≤◌, map, Bool, true, false, Option, None, refl, sym, ◌∙◌, subst, ap, inr, arith}
use Rattle.std.proofs.lemmas.Option.{IfSome_then}
use Rattle.std.specs.Prelude.{IfSome, is_some}
use Rattle.walter_base.specs.declared.catalog.Catalog.{Catalog}
use Rattle.walter_base.specs.declared.format.Format.{Format}
use Rattle.walter_base.specs.declared.message.Record.{Record}
use Rattle.walter_base.specs.declared.names.SiteId.{SiteId}
use Rattle.walter_base.specs.Sizes.{most_in}
use Rattle.walter_checkpoint.specs.Books.{disk_of, shape_of}
use Rattle.walter_disk.proofs.Moments.{joined}
use Rattle.walter_disk.specs.Disks.{DiskState}
use Rattle.walter_disk.specs.Images.{LeavesOnly}
use Rattle.walter_engine.proofs.Crashes.{stays_next}
use Rattle.walter_engine.proofs.Packed.{made, unmade, for_shape, calls_behind, calls_before_same, goes_on_same, spelled_packed}
use Rattle.walter_engine.proofs.Laid.{laid_header}
use Rattle.walter_engine.proofs.Raising.{over_here, refused_here, format_here, rises, comes_of, comes_hindered, hindered_is, knows_here, stands_here, kept_here, rests_next, raises_hindered, raises_wanting, raises_unpacked, packed_next}
use Rattle.walter_engine.proofs.Room.{IsFor}
use Rattle.walter_engine.proofs.Taking.{same_parts}
use Rattle.walter_engine.proofs.Spelled.{enough_in}
use Rattle.walter_engine.proofs.Written.{fits_next, faults_as, same_faults, same_layout, sized_as}
use Rattle.walter_engine.proofs.restarting.raise.Goals as goal
use Rattle.walter_engine.specs.Contents.{AreSpelled, MayHaveNext}
use Rattle.walter_engine.specs.Effects.{IsRefusedOver}
use Rattle.walter_engine.specs.Raises.{hindered_by}
use Rattle.walter_engine.specs.Replays.{IsReadyOver}
use Rattle.walter_engine.specs.Restarts.{ComesOf, left_over}
use Rattle.walter_engine.specs.Stores.{IsLeft, layout_of}
use Rattle.walter_engine.specs.Writings.{IsOutcomeOf}
use Rattle.walter_machine.proofs.Records.{recordable_if}
use Rattle.walter_machine.proofs.Sizes.{sized_only}
use Rattle.walter_machine.specs.Comings.{is_faulty, IsSized}
use Rattle.walter_machine.specs.Machines.{catalog_in, site_in, tables_in, records_in, HasStanding, IsCounted}
use Rattle.walter_machine.specs.Readiness.{rec_in, IsReadyFor, IsReadyAnyway}
use Rattle.walter_rules.specs.declared.entry.Came.{Came}
use Rattle.walter_rules.specs.declared.event.Event.TheVariants.{Restart}
use Rattle.walter_rules.specs.declared.outcome.Outcome.{Outcome}
use Rattle.walter_rules.specs.declared.outcome.Outcome.TheVariants.{Failed, Memory}
use Rattle.walter_rules.specs.Knowledge.{Knowledge}
use Rattle.walter_rules.specs.Layouts.{Layout, header_of}
use Rattle.walter_rules.specs.Standing.{stands_after, up_after}
use Rattle.walter_rules.specs.Trails.{Comes, only, TakesMemory}
use Rattle.walter_tables.specs.declared.tables.Tables.{Tables}

pub ready_over-requires-clause-here : goal.ready_over-requires-clause-here
ready_over-requires-clause-here g c =
    omega (arith, ap (λ (k : SiteId). k.0) c.id.ensures, ap (λ (x : Catalog). x.sites) c.catalog.ensures, c.args.machine.now.here)

pub ready_over-requires-clause-most : goal.ready_over-requires-clause-most
ready_over-requires-clause-most g c =
    let most = subst (λ h. (catalog_in c.args.machine.now).sites ≤ most_in h) (sym c.format-header.ensures) c.requires.most in
    omega (arith, ap (λ (x : Catalog). x.sites) c.catalog.ensures, most)

pub ready_over-requires-clause-fewer : goal.ready_over-requires-clause-fewer
ready_over-requires-clause-fewer g c =
    omega (arith, ap (λ (x : Catalog). x.sites) c.catalog.ensures, ap (λ (x : Catalog). x.tolerated) c.catalog.ensures, c.args.machine.now.fewer)

-- there is no room for the site
pub returns-in_default : goal.returns-in_default
returns-in_default g c =
    let room = c.make_room.ensures in
    let m = c.args.machine.now in
    let m1 = c.make_room.new.self in
    let bodies = map (λ body. body.items) c.args.bodies.now in
    let came = c.want.ensures.came in
    record {
      raises = λ layout S lies standing count.
          raises_hindered {g = g.D.Disk} (catalog_in m) layout (site_in m) S c.args.book.now bodies lies g.met.D.Disk.size_is m1 room.same.catalog c.want.new.came
          (same_parts (λ x k. HasStanding m1 (stands_after x k S Restart c.want.new.came)) (catalog_in m1) (catalog_in m) (site_in m1) (site_in m) (sym room.same.catalog) (sym room.same.id)
          (c.want.ensures.stands S (room.stands S standing) (subst (λ up. TakesMemory up Restart) (sym lies.down) tt))) None tt came;
      any_moment = λ layout S lies.
          rests_next {g = g.D.Disk} (catalog_in m) layout (site_in m) S c.args.book.now bodies lies g.met.D.Disk.only_now;
      refused = tt;
      over = comes_hindered _ (catalog_in m) (site_in m) _ bodies _ _ None tt (ap (λ (x : Came). x.outcome) came);
      up = ap is_some (room.tables ∙ c.requires.down) ∙ sym (ap (λ (x : Came). up_after Restart x.outcome false) came);
      sized = sized_as _ c.want.new.came _ came (sized_only _ Memory tt);
      none_sent = ap (λ (x : Came). x.sends) came;
      none_dropped = ap (λ (x : Came). x.dropped) came;
      none_kept = ap (λ (x : Came). x.kept) came;
      faults = faults_as c.want.new.came false _ _ (ap (λ (x : Came). is_faulty x.outcome) came) refl;
      arms = refl;
      tells = refl;
      device = record { all = rw (ap (λ (x : Came). x.wrote) came) tt; at_most = omega arith };
      shape = refl;
      same = record { catalog = room.same.catalog; id = room.same.id };
    }

pub spell_any-requires-clause-sized : goal.spell_any-requires-clause-sized
spell_any-requires-clause-sized g c =
    recordable_if c.catalog.result.now.sites (rec_in c.in-Ok.ready.0) c.in-Ok.ensures.ready.anyway.ready_for.sized.wrote

pub spell_any-requires-clause-fits : goal.spell_any-requires-clause-fits
spell_any-requires-clause-fits g c =
    let over = c.in-Ok.ensures.ready in
    let most = subst (λ h. (catalog_in c.args.machine.now).sites ≤ most_in h) (sym c.format-header.ensures) c.requires.most in
    fits_next c.in-Ok.ready.1 c.catalog.result.now c.id.result over.anyway.S (rec_in c.in-Ok.ready.0)
    (subst (λ f. c.catalog.result.now.sites ≤ most_in f) (sym over.told)
    (enough_in c.format-header.result _ (omega (arith, ap (λ (x : Catalog). x.sites) c.catalog.ensures, most))))
    over.anyway.ready_for.next

-- memory ran out
pub returns-in_default-spell_any : goal.returns-in_default-spell_any
returns-in_default-spell_any g c =
    let room = c.make_room.ensures in
    let m = c.args.machine.now in
    let m1 = c.make_room.new.self in
    let wanting = c.want-in_default-spell_any in
    let same = c.spell_any.ensures.same in
    let came = wanting.ensures.came in
    record {
      raises = λ layout S lies standing count.
          raises_wanting {g = g.D.Disk} (catalog_in m) layout (site_in m) S c.args.book.now (map (λ body. body.items) c.args.bodies.now) lies g.met.D.Disk.size_is m1 room.same.catalog wanting.new.came
          (same_parts (λ x k. HasStanding m1 (stands_after x k S Restart wanting.new.came)) (catalog_in m1) (catalog_in m) (site_in m1) (site_in m) (sym room.same.catalog) (sym room.same.id)
          (wanting.ensures.stands S (room.stands S standing) (subst (λ up. TakesMemory up Restart) (sym lies.down) tt))) c.spell_any.new.book same came;
      any_moment = λ layout S lies.
          stays_next {g = g.D.Disk} (catalog_in m) layout (site_in m) S Restart c.args.book.now lies.laid
          (stands_here {g = g.D.Disk} (catalog_in m) layout (site_in m) S c.args.book.now (map (λ body. body.items) c.args.bodies.now) lies) c.spell_any.new.book same;
      refused = tt;
      over = subst (λ (o : Outcome). ComesOf (header_of (layout_of c.args.book.now)) (catalog_in m) (site_in m) (left_over (layout_of c.args.book.now) (map (λ body. body.items) c.args.bodies.now)) (map (λ body. body.items) c.args.bodies.now) wanting.new.came.wrote None o) (sym (ap (λ (x : Came). x.outcome) came)) refl;
      up = ap is_some (room.tables ∙ c.requires.down) ∙ sym (ap (λ (x : Came). up_after Restart x.outcome false) came);
      sized = sized_as _ wanting.new.came _ came (sized_only _ Memory tt);
      none_sent = ap (λ (x : Came). x.sends) came;
      none_dropped = ap (λ (x : Came). x.dropped) came;
      none_kept = ap (λ (x : Came). x.kept) came;
      faults = faults_as wanting.new.came false _ _ (ap (λ (x : Came). is_faulty x.outcome) came) (ap (λ (d : DiskState). d.faults) same.disk);
      arms = ap (λ (d : DiskState). d.arms) same.disk;
      tells = ap (λ (d : DiskState). is_some d.reads) same.disk;
      device = record { all = rw (ap (λ (x : Came). x.wrote) came) tt; at_most = omega (arith, same.book.device) };
      shape = same.book.shape;
      same = record { catalog = room.same.catalog; id = room.same.id };
    }

pub pack_any-requires-clause-pack_room : goal.pack_any-requires-clause-pack_room
pack_any-requires-clause-pack_room g c = c.in-Ok-spell_any.ensures.pack_room c.requires.pack_room

pub pack_any-requires-clause-ready : goal.pack_any-requires-clause-ready
pack_any-requires-clause-ready g c = c.spell_any.ensures.same.book.ready _ c.requires.ready

pub pack_any-requires-clause-goes_on : goal.pack_any-requires-clause-goes_on
pack_any-requires-clause-goes_on g c = goes_on_same _ _ c.spell_any.ensures.same _ c.requires.goes_on

-- the pack met a fault
pub returns-then-is_err : goal.returns-then-is_err
returns-then-is_err g c =
    let bodies = map (λ body. body.items) c.args.bodies.now in
    let room = c.make_room.ensures in
    let m = c.args.machine.now in
    let m1 = c.make_room.new.self in
    let same = c.spell_any.ensures.same in
    let came = c.rest-then-is_err.ensures.came in
    let failed = unmade c.pack_any.result (sym c.is_err.ensures.value ∙ c.if-is_err.true) c.pack_any.ensures.failed in
    let calls = calls_before_same {g = g.D.Disk} c.args.book.now c.spell_any.new.book same bodies in
    record {
      raises = λ layout S lies standing count.
          raises_unpacked {g = g.D.Disk} (catalog_in m) layout (site_in m) S c.args.book.now bodies lies g.met.D.Disk.size_is m1 room.same.catalog c.rest-then-is_err.new.came
          (same_parts (λ x k. HasStanding m1 (stands_after x k S Restart c.rest-then-is_err.new.came)) (catalog_in m1) (catalog_in m) (site_in m1) (site_in m) (sym room.same.catalog) (sym room.same.id)
          (c.rest-then-is_err.ensures.stands S (room.stands S standing) lies.down)) c.spell_any.new.book same c.pack_any.new.book g.met.D.Disk.counts_now failed
          (c.pack_any.ensures.any_moment (same.book.stands bodies lies.stands)) (room.tables ∙ c.requires.down) came;
      any_moment = λ layout S lies.
          packed_next {g = g.D.Disk} (catalog_in m) layout (site_in m) S c.args.book.now bodies lies c.spell_any.new.book same (disk_of c.pack_any.new.book)
          (c.pack_any.ensures.any_moment (same.book.stands bodies lies.stands));
      refused = tt;
      over = subst (λ (o : Outcome). ComesOf (header_of (layout_of c.args.book.now)) (catalog_in m) (site_in m) (left_over (layout_of c.args.book.now) bodies) bodies c.rest-then-is_err.new.came.wrote None o) (sym (ap (λ (x : Came). x.outcome) came)) refl;
      up = ap is_some (room.tables ∙ c.requires.down) ∙ sym (ap (λ (x : Came). up_after Restart x.outcome false) came);
      sized = sized_as _ c.rest-then-is_err.new.came _ came (sized_only _ Failed tt);
      none_sent = ap (λ (x : Came). x.sends) came;
      none_dropped = ap (λ (x : Came). x.dropped) came;
      none_kept = ap (λ (x : Came). x.kept) came;
      faults = faults_as c.rest-then-is_err.new.came true _ _ (ap (λ (x : Came). is_faulty x.outcome) came)
          (subst (λ (d : DiskState). d.faults < (g.D.Disk.known (disk_of c.pack_any.new.book)).faults) same.disk failed.rises);
      arms = c.pack_any.ensures.arms ∙ ap (λ (d : DiskState). d.arms) same.disk;
      tells = c.pack_any.ensures.tells ∙ ap (λ (d : DiskState). is_some d.reads) same.disk;
      device = record { all = rw (ap (λ (x : Came). x.wrote) came) tt; at_most = omega (arith, same.book.device, c.pack_any.ensures.at_most, calls) };
      shape = c.pack_any.ensures.shape ∙ same.book.shape;
      same = record { catalog = room.same.catalog; id = room.same.id };
    }

pub put-requires-clause-anyway : goal.put-requires-clause-anyway
put-requires-clause-anyway g c =
    let over = same_parts (λ x k. IsReadyOver (shape_of c.args.book.now).header x k (map (λ body. body.items) c.args.bodies.now) c.in-Ok.ready.0 c.in-Ok.ready.1) c.catalog.result.now (catalog_in c.args.machine.now) c.id.result (site_in c.args.machine.now) (sym c.catalog.ensures) (sym c.id.ensures)
    (subst (λ h. IsReadyOver h c.catalog.result.now c.id.result (map (λ body. body.items) c.args.bodies.now) c.in-Ok.ready.0 c.in-Ok.ready.1) c.format-header.ensures c.in-Ok.ensures.ready) in
    let m = c.args.machine.now in
    let m1 = c.make_room.new.self in
    let room = c.make_room.ensures in
    same_parts (λ x k. IsReadyAnyway x k (tables_in m1) Restart c.in-Ok.ready.0) (catalog_in m) (catalog_in m1) (site_in m) (site_in m1) room.same.catalog room.same.id
    (subst (λ (o : Option Tables). IsReadyAnyway (catalog_in m) (site_in m) o Restart c.in-Ok.ready.0) (sym (room.tables ∙ c.requires.down)) over.anyway)

pub put-requires-clause-countable : goal.put-requires-clause-countable
put-requires-clause-countable g c some =
    let m1 = c.make_room.new.self in
    let same : records_in m1 ≡ records_in c.args.machine.now = c.make_room.ensures.records in
    omega (arith, c.requires.countable)

pub put-requires-clause-spelled : goal.put-requires-clause-spelled
put-requires-clause-spelled g c =
    let packed = made c.pack_any.result (sym c.is_err.ensures.value ∙ c.if-is_err.false) c.pack_any.ensures.packed in
    spelled_packed {g = g.D.Disk} c.in-Ok.ready.1 c.spell_any.new.book c.pack_any.new.book _ c.in-Ok-spell_any.body c.in-Ok-spell_any.ensures.spelled
    (c.in-Ok-spell_any.ensures.behind (map (λ body. body.items) c.args.bodies.now) c.requires.ready) packed.room

pub put-requires-clause-sites : goal.put-requires-clause-sites
put-requires-clause-sites g c =
    let most = subst (λ h. (catalog_in c.args.machine.now).sites ≤ most_in h) (sym c.format-header.ensures) c.requires.most in
    subst (λ f. (catalog_in c.make_room.new.self).sites ≤ most_in f) (sym c.in-Ok.ensures.ready.told)
    (enough_in c.format-header.result _ (omega (arith, ap (λ (x : Catalog). x.sites) c.make_room.ensures.same.catalog, most)))

pub returns : goal.returns
returns g c =
    let bodies = map (λ body. body.items) c.args.bodies.now in
    let m = c.args.machine.now in
    let m1 = c.make_room.new.self in
    let room = c.make_room.ensures in
    let catalog = catalog_in m in
    let i = site_in m in
    let down = room.tables ∙ c.requires.down in
    let ready = c.in-Ok.ready.0 in
    let same = c.spell_any.ensures.same in
    let packed = made c.pack_any.result (sym c.is_err.ensures.value ∙ c.if-is_err.false) c.pack_any.ensures.packed in
    let format = c.in-Ok.ready.1 in
    let told = same_parts (λ x k. IsReadyOver (shape_of c.args.book.now).header x k bodies ready format) c.catalog.result.now catalog c.id.result i (sym c.catalog.ensures) (sym c.id.ensures)
    (subst (λ h. IsReadyOver h c.catalog.result.now c.id.result (map (λ body. body.items) c.args.bodies.now) c.in-Ok.ready.0 c.in-Ok.ready.1) c.format-header.ensures c.in-Ok.ensures.ready) in
    let over = subst (λ (h : Format). IsReadyOver h catalog i bodies ready format)
    (sym (laid_header (shape_of c.args.book.now) c.args.book.now.live)) told in
    let laid = same_layout {g = g.D.Disk} c.args.book.now c.spell_any.new.book same.book.shape same.book.live in
    let device = made c.pack_any.result (sym c.is_err.ensures.value ∙ c.if-is_err.false) c.pack_any.ensures.device in
    let calls = calls_before_same {g = g.D.Disk} c.args.book.now c.spell_any.new.book same bodies in
    record {
      raises = λ layout S lies standing count.
          let over = over_here {g = g.D.Disk} catalog layout i S c.args.book.now bodies lies ready format told in
          let at = format_here {g = g.D.Disk} catalog layout i S c.args.book.now bodies lies over.records over.tell format over.told in
          let knows = knows_here {g = g.D.Disk} catalog layout i S c.args.book.now bodies lies over.records over.tell in
          let ready_for = same_parts (λ x k. IsReadyFor (header_of layout) x k (tables_in m1) S Restart ready) catalog (catalog_in m1) i (site_in m1) room.same.catalog room.same.id
          (subst (λ (o : Option Tables). IsReadyFor (header_of layout) catalog i o S Restart ready) (sym down)
          (over.ready_for (header_of layout) S lies.down knows)) in
          let counted = subst (λ (o : Option Record). IsCounted m1 S o) (sym over.boots) (room.records ∙ count) in
          let kept = kept_here {g = g.D.Disk} catalog layout i S c.args.book.now bodies lies (shape_of c.args.book.now).sites
          (subst (IsFor (shape_of c.args.book.now).sites) lies.laid (for_shape (shape_of c.args.book.now) c.args.book.now.live))
          c.requires.sites c.spell_any.new.book c.pack_any.new.book same packed in
          let spelled = subst (λ (x : Catalog). AreSpelled (header_of layout) x.sites S) (sym room.same.catalog) lies.spellings in
          let stands = room.stands S standing in
          record {
            comes = inr (same_parts (λ x k. Comes x layout k S Restart c.put.new.came) (catalog_in m1) catalog (site_in m1) i (sym room.same.catalog) (sym room.same.id)
                (c.put.ensures.comes layout S stands counted ready_for at spelled kept));
            leaves = same_parts (λ x k. IsLeft {g = g.D.Disk} layout c.put.new.machine (stands_after x k S Restart c.put.new.came) c.put.new.book) (catalog_in m1) catalog (site_in m1) i (sym room.same.catalog) (sym room.same.id)
                (c.put.ensures.leaves layout S stands counted ready_for at spelled kept);
            last = tt;
            takes_none = λ last. absurd (over.left (ap (λ (K : Knowledge). K.epoch) knows ∙ last));
          };
      any_moment = λ layout S lies.
          let over = over_here {g = g.D.Disk} catalog layout i S c.args.book.now bodies lies ready format told in
          let at = format_here {g = g.D.Disk} catalog layout i S c.args.book.now bodies lies over.records over.tell format over.told in
          let knows = knows_here {g = g.D.Disk} catalog layout i S c.args.book.now bodies lies over.records over.tell in
          let ready_for = same_parts (λ x k. IsReadyFor (header_of layout) x k (tables_in m1) S Restart ready) catalog (catalog_in m1) i (site_in m1) room.same.catalog room.same.id
          (subst (λ (o : Option Tables). IsReadyFor (header_of layout) catalog i o S Restart ready) (sym down)
          (over.ready_for (header_of layout) S lies.down knows)) in
          let kept = kept_here {g = g.D.Disk} catalog layout i S c.args.book.now bodies lies (shape_of c.args.book.now).sites
          (subst (IsFor (shape_of c.args.book.now).sites) lies.laid (for_shape (shape_of c.args.book.now) c.args.book.now.live))
          c.requires.sites c.spell_any.new.book c.pack_any.new.book same packed in
          joined g.D.Disk.moment g.D.Disk.left_since (disk_of c.args.book.now) (disk_of c.pack_any.new.book) (disk_of c.put.new.book) (MayHaveNext catalog layout i S Restart None)
          (packed_next {g = g.D.Disk} catalog layout i S c.args.book.now bodies lies c.spell_any.new.book same (disk_of c.pack_any.new.book)
          (c.pack_any.ensures.any_moment (same.book.stands bodies lies.stands)))
          (same_parts (λ x k. LeavesOnly g.D.Disk.moment g.D.Disk.left_since (disk_of c.pack_any.new.book) (disk_of c.put.new.book) (MayHaveNext x layout k S Restart None)) (catalog_in m1) catalog (site_in m1) i (sym room.same.catalog) (sym room.same.id)
          (c.put.ensures.any_moment layout S ready_for at kept));
      refused = tt;
      over = comes_of _ catalog i _ bodies ready format over _ _
          (subst (λ n. IsOutcomeOf format Restart ready n c.put.new.came.outcome) (packed.left ∙ ap (λ (l : Layout). left_over l bodies) laid) c.put.ensures.outcome)
          c.put.ensures.wrote;
      up = c.put.ensures.up ∙ ap (λ (up : Bool). up_after Restart c.put.new.came.outcome up) (ap is_some down);
      sized = subst (λ (x : Catalog). IsSized x.sites c.put.new.came) room.same.catalog c.put.ensures.sized;
      none_sent = c.put.ensures.sent (rises _ _ ready _ over.anyway over.boots).1;
      none_dropped = c.put.ensures.none_dropped;
      none_kept = c.put.ensures.none_kept;
      faults = same_faults c.put.new.came _ _ _ (packed.faultless ∙ ap (λ (d : DiskState). d.faults) same.disk) c.put.ensures.faults;
      arms = c.put.ensures.arms ∙ (c.pack_any.ensures.arms ∙ ap (λ (d : DiskState). d.arms) same.disk);
      tells = c.put.ensures.tells ∙ (c.pack_any.ensures.tells ∙ ap (λ (d : DiskState). is_some d.reads) same.disk);
      device = calls_behind c.put.new.came _ _ _ _ (omega (arith, device, same.book.device, calls)) c.put.ensures.device;
      shape = c.put.ensures.shape ∙ c.pack_any.ensures.shape ∙ same.book.shape;
      same = record { catalog = c.put.ensures.same.catalog ∙ room.same.catalog; id = c.put.ensures.same.id ∙ room.same.id };
    }

pub rest-requires-clause-rest : goal.rest-requires-clause-rest
rest-requires-clause-rest g c = rw c.hindrance.ensures (hindered_is c.in-Err.why).0

-- none is ready
pub returns-in-Err : goal.returns-in-Err
returns-in-Err g c =
    let why = c.in-Err.why in
    let refused = same_parts (λ x k. IfSome why (IsRefusedOver (shape_of c.args.book.now).header x k (map (λ body. body.items) c.args.bodies.now))) c.catalog.result.now (catalog_in c.args.machine.now) c.id.result (site_in c.args.machine.now) (sym c.catalog.ensures) (sym c.id.ensures)
    (subst (λ h. IfSome why (IsRefusedOver h c.catalog.result.now c.id.result (map (λ body. body.items) c.args.bodies.now))) c.format-header.ensures c.in-Err.ensures.refused) in
    let came = c.rest.ensures.came ∙ ap only c.hindrance.ensures in
    record {
      raises = λ layout S lies standing count.
          raises_hindered {g = g.D.Disk} (catalog_in c.args.machine.now) layout (site_in c.args.machine.now) S c.args.book.now (map (λ body. body.items) c.args.bodies.now) lies g.met.D.Disk.size_is c.args.machine.now refl c.rest.new.came
          (c.rest.ensures.stands S standing lies.down) why
          (refused_here {g = g.D.Disk} (catalog_in c.args.machine.now) layout (site_in c.args.machine.now) S c.args.book.now (map (λ body. body.items) c.args.bodies.now) lies why refused) came;
      any_moment = λ layout S lies.
          rests_next {g = g.D.Disk} (catalog_in c.args.machine.now) layout (site_in c.args.machine.now) S c.args.book.now (map (λ body. body.items) c.args.bodies.now) lies g.met.D.Disk.only_now;
      refused = IfSome_then why refused (λ cause over. (refl, over));
      over = comes_hindered _ (catalog_in c.args.machine.now) (site_in c.args.machine.now) _ (map (λ body. body.items) c.args.bodies.now) _ _ why
          (subst (λ (h : Format). IfSome why (IsRefusedOver h (catalog_in c.args.machine.now) (site_in c.args.machine.now) (map (λ body. body.items) c.args.bodies.now)))
          (sym (laid_header (shape_of c.args.book.now) c.args.book.now.live)) refused)
          (ap (λ (x : Came). x.outcome) came);
      up = ap is_some c.requires.down ∙ sym (ap (λ (x : Came). up_after Restart x.outcome false) came ∙ (hindered_is why).3);
      sized = sized_as _ c.rest.new.came _ came (sized_only _ (hindered_by why) (hindered_is why).1);
      none_sent = ap (λ (x : Came). x.sends) came;
      none_dropped = ap (λ (x : Came). x.dropped) came;
      none_kept = ap (λ (x : Came). x.kept) came;
      faults = faults_as c.rest.new.came false _ _ (ap (λ (x : Came). is_faulty x.outcome) came ∙ (hindered_is why).2) refl;
      arms = refl;
      tells = refl;
      device = record { all = rw (ap (λ (x : Came). x.wrote) came) tt; at_most = omega arith };
      shape = refl;
      same = record { catalog = refl; id = refl };
    }
