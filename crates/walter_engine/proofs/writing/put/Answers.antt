use Rattle.std.proofs.Common.{◌≡◌, [], rules, ◌≤◌, ℕ, List, length, map, true, false, Option, Some, None, sym, ◌∙◌, subst, ap, inl, inr, refl, arith}
use Rattle.std.specs.Prelude.{IfSome, IsSome, is_some}
use Rattle.walter_base.specs.declared.format.Format.{Format}
use Rattle.walter_machine.proofs.Records.{recordable}
use Rattle.walter_rules.specs.Records.{IsRecordAmong}
use Rattle.walter_checkpoint.specs.Books.{disk_of, left_of, HasRoom}
use Rattle.walter_checkpoint.specs.declared.book.Book.{Book}
use Rattle.walter_engine.proofs.Bodies.{some_is}
use Rattle.walter_engine.proofs.Crashes.{unmoved_next, appends_next}
use Rattle.walter_engine.proofs.Room.{short_enough, need_is}
use Rattle.walter_engine.proofs.Written.{fits_next, is_taken, spelling_some, spelling_none, full_is, failed_is, failure_is, fullness_is, holds_none, faults_as, calls_as, sized_as, sized_flying, brings, has, stands_in, fits_here, lacks_here, leaves_kept, leaves_more, leaves_flying, ups_same, ups_ruled}
use Rattle.walter_engine.proofs.writing.put.Goals as goal
use Rattle.walter_engine.specs.Stores.{IsKept}
use Rattle.walter_journal.specs.Journals.{need_of}
use Rattle.walter_machine.proofs.Sizes.{sized_only}
use Rattle.walter_machine.specs.Comings.{is_faulty}
use Rattle.walter_machine.specs.Machines.{catalog_in, site_in, tables_in, is_up}
use Rattle.walter_machine.specs.Readiness.{rec_in}
use Rattle.walter_packet.specs.Framed.{frame_of}
use Rattle.walter_rules.specs.Calls.{Expected}
use Rattle.walter_record.specs.Spelling.{record_spelled, FitsFormat}
use Rattle.walter_rules.specs.Layouts.{FitsIn, header_of, need_of as need_by}
use Rattle.walter_rules.specs.Trails.{only, failure, fullness}
use Rattle.walter_rules.specs.Sending.{Send}
use Rattle.walter_rules.specs.Standing.{up_after}
use Rattle.walter_rules.specs.declared.entry.Came.{Came}
use Rattle.walter_tables.specs.Folding.{IsTidy}
use Rattle.walter_tables.specs.declared.tables.Tables.{Tables}

-- there is no record
pub returns-in_default : goal.returns-in_default
returns-in_default g c =
    let came = c.keep.ensures.came in
    let free = spelling_none {g = g.D.Disk} c.args.format c.args.book.now (rec_in c.args.ready.now) c.args.body c.requires.spelled c.in_default.is in
    record {
      comes = λ layout S standing counted ready_for at spelled kept.
          c.keep.ensures.comes layout S ready_for (holds_none (FitsIn layout S) (rec_in c.args.ready.now) free);
      leaves = λ layout S standing counted ready_for at spelled kept.
          leaves_kept {g = g.D.Disk} g.met.D.Disk.size_is (catalog_in c.args.machine.now) layout (site_in c.args.machine.now) S c.args.event.now spelled c.keep.new.self c.keep.ensures.same.catalog
          c.keep.new.came (c.keep.ensures.stands (header_of layout) S standing counted ready_for) c.args.book.now kept
          (ups_ruled (header_of layout) (catalog_in c.args.machine.now) (site_in c.args.machine.now) S c.args.event.now c.keep.new.came
          (ap (λ (x : Came). x.outcome) came ∙ ap (λ (e : Expected). e.outcome) ready_for.rule)
          (sym (ap (λ (e : Expected). e.wrote) ready_for.rule) ∙ free))
          (ap (λ (x : Came). x.wrote) came ∙ free) (ap (λ (x : Came). x.flight) came);
      any_moment = λ layout S ready_for at kept.
          unmoved_next {g = g.D.Disk} g.met.D.Disk.only_now c.args.book.now (catalog_in c.args.machine.now) layout (site_in c.args.machine.now) S c.args.event.now None kept;
      outcome = inl (ap (λ (x : Came). x.outcome) came);
      up = c.keep.ensures.up;
      sent = λ none. ap (λ (x : Came). x.sends) came ∙ none;
      wrote = λ taken. ap (λ (x : Came). x.wrote) came;
      untouched = λ none. refl;
      shape = refl;
      sized = sized_as _ c.keep.new.came _ came c.requires.anyway.ready_for.sized;
      framed = c.keep.ensures.framed ∙ c.requires.anyway.ready_for.framed
          ∙ ap (λ (x : Came). map (λ (e : Send). frame_of (catalog_in c.args.machine.now).sites e.1) x.sends) (sym came);
      none_dropped = ap (λ (x : Came). x.dropped) came;
      none_kept = ap (λ (x : Came). x.kept) came;
      faults = faults_as c.keep.new.came false _ _ (ap (λ (x : Came). is_faulty x.outcome) came ∙ c.requires.anyway.ready_for.fine) refl;
      arms = refl;
      tells = refl;
      device = calls_as c.keep.new.came None None _ _ (ap (λ (x : Came). x.wrote) came ∙ free) (ap (λ (x : Came). x.flight) came) refl;
      tidy = λ tick. subst (λ (t : Option Tables). IfSome t IsTidy) (sym (c.keep.ensures.tick tick));
      same = c.keep.ensures.same;
    }

-- its record is appended
pub append-requires-clause-short : goal.append-requires-clause-short
append-requires-clause-short g c =
    let s = spelling_some {g = g.D.Disk} c.args.format c.args.book.now (rec_in c.args.ready.now) c.args.body c.in-Some.body c.requires.spelled c.in-Some.is in
    let can = some_is (IsRecordAmong (catalog_in c.args.machine.now).sites) (rec_in c.args.ready.now) s.0 s.1 c.requires.anyway.ready_for.sized.wrote in
    let is = c.as_slice.ensures ∙ s.2.is in
    subst (λ (b : List ℕ). length b ≤ 65536) (sym is) (short_enough c.args.format s.0 (recordable (catalog_in c.args.machine.now).sites s.0 can)
    (some_is (FitsFormat c.args.format) (rec_in c.args.ready.now) s.0 s.1
    (fits_next c.args.format (catalog_in c.args.machine.now) (site_in c.args.machine.now) c.requires.anyway.S
    (rec_in c.args.ready.now) c.requires.sites c.requires.anyway.ready_for.next)))

pub append-requires-clause-room : goal.append-requires-clause-room
append-requires-clause-room g c =
    let s = spelling_some {g = g.D.Disk} c.args.format c.args.book.now (rec_in c.args.ready.now) c.args.body c.in-Some.body c.requires.spelled c.in-Some.is in
    subst (λ (b : List ℕ). HasRoom {g = g.D.Disk} c.args.book.now (length b)) (sym c.as_slice.ensures) s.2.room

pub returns-in-Ok : goal.returns-in-Ok
returns-in-Ok g c =
    let s = spelling_some {g = g.D.Disk} c.args.format c.args.book.now (rec_in c.args.ready.now) c.args.body c.in-Some.body c.requires.spelled c.in-Some.is in
    let can = some_is (IsRecordAmong (catalog_in c.args.machine.now).sites) (rec_in c.args.ready.now) s.0 s.1 c.requires.anyway.ready_for.sized.wrote in
    let is = c.as_slice.ensures ∙ s.2.is in
    let came = c.keep-in-Ok.ensures.came in
    record {
      comes = λ layout S standing counted ready_for at spelled kept.
          c.keep-in-Ok.ensures.comes layout S ready_for (fits_here (catalog_in c.args.machine.now) layout (site_in c.args.machine.now) (tables_in c.args.machine.now) S c.args.event.now c.args.ready.now ready_for s.0 s.1 {g = g.D.Disk}
          c.args.format standing.told at c.args.book.now kept c.as_slice.result.now is (has (catalog_in c.args.machine.now) layout (site_in c.args.machine.now) (tables_in c.args.machine.now) S c.args.event.now c.args.ready.now ready_for s.0 s.1 c.args.format c.requires.sites s.2.ranges) c.in-Ok.ensures.ok.fits);
      leaves = λ layout S standing counted ready_for at spelled kept.
          leaves_more {g = g.D.Disk} g.met.D.Disk.size_is (catalog_in c.args.machine.now) layout (site_in c.args.machine.now) S c.args.event.now spelled c.keep-in-Ok.new.self c.keep-in-Ok.ensures.same.catalog
          c.keep-in-Ok.new.came (c.keep-in-Ok.ensures.stands (header_of layout) S standing counted ready_for) c.append.new.self c.args.book.now s.0 c.args.format c.as_slice.result.now
          kept at is (stands_in (catalog_in c.args.machine.now) layout (site_in c.args.machine.now) (tables_in c.args.machine.now) S c.args.event.now c.args.ready.now ready_for s.0 s.1 c.args.format standing.told at
          (has (catalog_in c.args.machine.now) layout (site_in c.args.machine.now) (tables_in c.args.machine.now) S c.args.event.now c.args.ready.now ready_for s.0 s.1 c.args.format c.requires.sites s.2.ranges)) c.in-Ok.ensures.ok c.append.ensures.shape c.append.ensures.live
          (brings (catalog_in c.args.machine.now) layout (site_in c.args.machine.now) (tables_in c.args.machine.now) S c.args.event.now c.args.ready.now ready_for s.0 s.1)
          (ap (λ (x : Came). x.wrote) came ∙ s.1) (ap (λ (x : Came). x.flight) came);
      any_moment = λ layout S ready_for at kept.
          appends_next {g = g.D.Disk} (catalog_in c.args.machine.now) layout (site_in c.args.machine.now) S c.args.event.now c.args.book.now kept.laid kept.stands (disk_of c.append.new.self) s.0 c.as_slice.result.now
          (brings (catalog_in c.args.machine.now) layout (site_in c.args.machine.now) (tables_in c.args.machine.now) S c.args.event.now c.args.ready.now ready_for s.0 s.1) (is ∙ ap (λ (f : Format). record_spelled f s.0) at) (c.append.ensures.any_moment _ kept.stands);
      outcome = inl (ap (λ (x : Came). x.outcome) came);
      up = c.keep-in-Ok.ensures.up;
      sent = λ none. ap (λ (x : Came). x.sends) came ∙ none;
      wrote = λ taken. ap (λ (x : Came). x.wrote) came;
      untouched = λ none. absurd (let e = sym none ∙ s.1 in cc);
      shape = c.append.ensures.shape;
      sized = sized_as _ c.keep-in-Ok.new.came _ came c.requires.anyway.ready_for.sized;
      framed = c.keep-in-Ok.ensures.framed ∙ c.requires.anyway.ready_for.framed
          ∙ ap (λ (x : Came). map (λ (e : Send). frame_of (catalog_in c.args.machine.now).sites e.1) x.sends) (sym came);
      none_dropped = ap (λ (x : Came). x.dropped) came;
      none_kept = ap (λ (x : Came). x.kept) came;
      faults = faults_as c.keep-in-Ok.new.came false _ _ (ap (λ (x : Came). is_faulty x.outcome) came ∙ c.requires.anyway.ready_for.fine)
          c.in-Ok.ensures.ok.faultless;
      arms = c.append.ensures.arms;
      tells = c.append.ensures.tells;
      device = calls_as c.keep-in-Ok.new.came (Some s.0) None _ _ (ap (λ (x : Came). x.wrote) came ∙ s.1)
          (ap (λ (x : Came). x.flight) came) c.in-Ok.ensures.device;
      tidy = λ tick. subst (λ (t : Option Tables). IfSome t IsTidy) (sym (c.keep-in-Ok.ensures.tick tick));
      same = c.keep-in-Ok.ensures.same;
    }

-- it meets a fault
pub fail-requires-clause-flies : goal.fail-requires-clause-flies
fail-requires-clause-flies g c =
    let s = spelling_some {g = g.D.Disk} c.args.format c.args.book.now (rec_in c.args.ready.now) c.args.body c.in-Some.body c.requires.spelled c.in-Some.is in
    ap is_some s.1

pub returns-in-Err-Failed : goal.returns-in-Err-Failed
returns-in-Err-Failed g c =
    let s = spelling_some {g = g.D.Disk} c.args.format c.args.book.now (rec_in c.args.ready.now) c.args.body c.in-Some.body c.requires.spelled c.in-Some.is in
    let can = some_is (IsRecordAmong (catalog_in c.args.machine.now).sites) (rec_in c.args.ready.now) s.0 s.1 c.requires.anyway.ready_for.sized.wrote in
    let is = c.as_slice.ensures ∙ s.2.is in
    let came = some_is (λ rec. c.fail.new.came ≡ record (only (failure c.args.event.now rec)) { flight = Some rec }) (rec_in c.args.ready.now) s.0 s.1 c.fail.ensures.came in
    let failed = failed_is c.append.result (need_of c.as_slice.result.now) (left_of c.args.book.now) _ _ c.append.ensures.full c.append.ensures.failed c.in-Err-Failed.field-0 c.in-Err-Failed.is c.in-Err-Failed.field-0-is in
    record {
      comes = λ layout S standing counted ready_for at spelled kept. c.fail.ensures.comes layout S ready_for (fits_here (catalog_in c.args.machine.now) layout (site_in c.args.machine.now) (tables_in c.args.machine.now) S c.args.event.now c.args.ready.now ready_for s.0 s.1 {g = g.D.Disk}
          c.args.format standing.told at c.args.book.now kept c.as_slice.result.now is (has (catalog_in c.args.machine.now) layout (site_in c.args.machine.now) (tables_in c.args.machine.now) S c.args.event.now c.args.ready.now ready_for s.0 s.1 c.args.format c.requires.sites s.2.ranges) failed.0);
      leaves = λ layout S standing counted ready_for at spelled kept.
          leaves_flying {g = g.D.Disk} g.met.D.Disk.size_is (catalog_in c.args.machine.now) layout (site_in c.args.machine.now) S c.args.event.now spelled c.fail.new.self c.fail.ensures.same.catalog
          c.fail.new.came (c.fail.ensures.stands (header_of layout) S standing counted ready_for) c.append.new.self c.args.book.now s.0 c.args.format c.as_slice.result.now
          kept at is (stands_in (catalog_in c.args.machine.now) layout (site_in c.args.machine.now) (tables_in c.args.machine.now) S c.args.event.now c.args.ready.now ready_for s.0 s.1 c.args.format standing.told at
          (has (catalog_in c.args.machine.now) layout (site_in c.args.machine.now) (tables_in c.args.machine.now) S c.args.event.now c.args.ready.now ready_for s.0 s.1 c.args.format c.requires.sites s.2.ranges)) g.met.D.Disk.counts_now failed.1
          (c.append.ensures.any_moment _ kept.stands) c.fail.ensures.down
          (ap (λ (x : Came). x.wrote) came) (ap (λ (x : Came). x.flight) came);
      any_moment = λ layout S ready_for at kept.
          appends_next {g = g.D.Disk} (catalog_in c.args.machine.now) layout (site_in c.args.machine.now) S c.args.event.now c.args.book.now kept.laid kept.stands (disk_of c.append.new.self) s.0 c.as_slice.result.now
          (brings (catalog_in c.args.machine.now) layout (site_in c.args.machine.now) (tables_in c.args.machine.now) S c.args.event.now c.args.ready.now ready_for s.0 s.1) (is ∙ ap (λ (f : Format). record_spelled f s.0) at) (c.append.ensures.any_moment _ kept.stands);
      outcome = inr (inr (inl (s.0, ap (λ (x : Came). x.outcome) came)));
      up = ap is_some c.fail.ensures.down
          ∙ sym (ap (λ (x : Came). up_after c.args.event.now x.outcome (is_up c.args.machine.now)) came ∙ (failure_is c.args.event.now s.0).3 (is_up c.args.machine.now));
      sent = λ none. ap (λ (x : Came). x.sends) came;
      wrote = λ taken. absurd (let e = sym (ap is_taken taken) ∙ ap (λ (x : Came). is_taken x.outcome) came ∙ (failure_is c.args.event.now s.0).4 in cc);
      untouched = λ none. absurd (let e = sym none ∙ s.1 in cc);
      shape = c.append.ensures.shape;
      sized = sized_as _ c.fail.new.came _ came (sized_flying _ c.args.event.now s.0 can);
      framed =
          let none : map (λ (e : Send). frame_of (catalog_in c.args.machine.now).sites e.1) c.fail.new.came.sends ≡ [] = ap (λ (x : Came). map (λ (e : Send). frame_of (catalog_in c.args.machine.now).sites e.1) x.sends) came in
          cc;
      none_dropped = ap (λ (x : Came). x.dropped) came;
      none_kept = ap (λ (x : Came). x.kept) came;
      faults = faults_as c.fail.new.came true _ _ (ap (λ (x : Came). is_faulty x.outcome) came ∙ (failure_is c.args.event.now s.0).0)
          failed.1.rises;
      arms = c.append.ensures.arms;
      tells = c.append.ensures.tells;
      device = calls_as c.fail.new.came None (Some s.0) _ _ (ap (λ (x : Came). x.wrote) came) (ap (λ (x : Came). x.flight) came)
          c.append.ensures.at_most;
      tidy = λ tick was. subst (λ (t : Option Tables). IfSome t IsTidy) (sym c.fail.ensures.down) tt;
      same = c.fail.ensures.same;
    }

-- it finds no place
pub overflow-requires : goal.overflow-requires
overflow-requires g c =
    let s = spelling_some {g = g.D.Disk} c.args.format c.args.book.now (rec_in c.args.ready.now) c.args.body c.in-Some.body c.requires.spelled c.in-Some.is in
    let some : IsSome (rec_in c.args.ready.now) = ap is_some s.1 in
    search rules

pub returns : goal.returns
returns g c =
    let s = spelling_some {g = g.D.Disk} c.args.format c.args.book.now (rec_in c.args.ready.now) c.args.body c.in-Some.body c.requires.spelled c.in-Some.is in
    let can = some_is (IsRecordAmong (catalog_in c.args.machine.now).sites) (rec_in c.args.ready.now) s.0 s.1 c.requires.anyway.ready_for.sized.wrote in
    let is = c.as_slice.ensures ∙ s.2.is in
    let full = full_is c.append.result (need_of c.as_slice.result.now) (left_of c.args.book.now) _ _ c.append.ensures.full c.append.ensures.failed c.in-Err-Full.field-0 c.in-Err-Full.need c.in-Err-Full.left c.in-Err-Full.is c.in-Err-Full.field-0-is in
    let came = c.overflow.ensures.came in
    let fits = some_is (FitsFormat c.args.format) (rec_in c.args.ready.now) s.0 s.1
    (fits_next c.args.format (catalog_in c.args.machine.now) (site_in c.args.machine.now) c.requires.anyway.S
    (rec_in c.args.ready.now) c.requires.sites c.requires.anyway.ready_for.next) in
    record {
      comes = λ layout S standing counted ready_for at spelled kept.
          c.overflow.ensures.comes layout S ready_for (lacks_here (catalog_in c.args.machine.now) layout (site_in c.args.machine.now) (tables_in c.args.machine.now) S c.args.event.now c.args.ready.now ready_for s.0 s.1 {g = g.D.Disk}
          c.args.format standing.told at c.args.book.now kept c.as_slice.result.now is (has (catalog_in c.args.machine.now) layout (site_in c.args.machine.now) (tables_in c.args.machine.now) S c.args.event.now c.args.ready.now ready_for s.0 s.1 c.args.format c.requires.sites s.2.ranges)
          c.in-Err-Full.need c.in-Err-Full.left full.0 full.1 full.2);
      leaves = λ layout S standing counted ready_for at spelled kept.
          leaves_kept {g = g.D.Disk} g.met.D.Disk.size_is (catalog_in c.args.machine.now) layout (site_in c.args.machine.now) S c.args.event.now spelled c.overflow.new.self c.overflow.ensures.same.catalog
          c.overflow.new.came (c.overflow.ensures.stands (header_of layout) S standing ready_for) c.append.new.self
          (subst (λ (b : Book g.row.D.Denot g.D.Disk). IsKept layout S b) (sym full.3) kept)
          (ups_same (catalog_in c.args.machine.now) (site_in c.args.machine.now) S c.args.event.now c.overflow.new.came (fullness c.args.event.now c.in-Err-Full.need c.in-Err-Full.left)
          (ap (λ (x : Came). x.outcome) came) ((fullness_is c.args.event.now c.in-Err-Full.need c.in-Err-Full.left).3 S.up))
          (ap (λ (x : Came). x.wrote) came) (ap (λ (x : Came). x.flight) came);
      any_moment = λ layout S ready_for at kept.
          appends_next {g = g.D.Disk} (catalog_in c.args.machine.now) layout (site_in c.args.machine.now) S c.args.event.now c.args.book.now kept.laid kept.stands (disk_of c.append.new.self) s.0 c.as_slice.result.now
          (brings (catalog_in c.args.machine.now) layout (site_in c.args.machine.now) (tables_in c.args.machine.now) S c.args.event.now c.args.ready.now ready_for s.0 s.1) (is ∙ ap (λ (f : Format). record_spelled f s.0) at) (c.append.ensures.any_moment _ kept.stands);
      outcome = inr (inr (inr (record {
        rec = s.0;
        is = s.1;
        less = omega (arith, full.0, ap length is, need_is c.args.format s.0 fits);
        outcome_is =
            let need : c.in-Err-Full.need ≡ need_by c.args.format s.0 = omega (arith, full.1, ap length is, need_is c.args.format s.0 fits) in
            ap (λ (x : Came). x.outcome) came
            ∙ (ap (λ n. fullness c.args.event.now n c.in-Err-Full.left) need ∙ ap (λ n. fullness c.args.event.now (need_by c.args.format s.0) n) full.2);
      })));
      up = ap is_some c.overflow.ensures.tables
          ∙ sym (ap (λ (x : Came). up_after c.args.event.now x.outcome (is_up c.args.machine.now)) came ∙ (fullness_is c.args.event.now c.in-Err-Full.need c.in-Err-Full.left).3 (is_up c.args.machine.now));
      sent = λ none. ap (λ (x : Came). x.sends) came;
      wrote = λ taken. absurd (let e = sym (ap is_taken taken) ∙ ap (λ (x : Came). is_taken x.outcome) came ∙ (fullness_is c.args.event.now c.in-Err-Full.need c.in-Err-Full.left).4 in cc);
      untouched = λ none. absurd (let e = sym none ∙ s.1 in cc);
      shape = c.append.ensures.shape;
      sized = sized_as _ c.overflow.new.came _ came (sized_only _ (fullness c.args.event.now c.in-Err-Full.need c.in-Err-Full.left) (fullness_is c.args.event.now c.in-Err-Full.need c.in-Err-Full.left).2);
      framed =
          let none : map (λ (e : Send). frame_of (catalog_in c.args.machine.now).sites e.1) c.overflow.new.came.sends ≡ [] = ap (λ (x : Came). map (λ (e : Send). frame_of (catalog_in c.args.machine.now).sites e.1) x.sends) came in
          cc;
      none_dropped = ap (λ (x : Came). x.dropped) came;
      none_kept = ap (λ (x : Came). x.kept) came;
      faults = faults_as c.overflow.new.came false _ _ (ap (λ (x : Came). is_faulty x.outcome) came ∙ (fullness_is c.args.event.now c.in-Err-Full.need c.in-Err-Full.left).0)
          (ap (λ (b : Book g.row.D.Denot g.D.Disk). (g.D.Disk.known (disk_of b)).faults) full.3);
      arms = c.append.ensures.arms;
      tells = c.append.ensures.tells;
      device = calls_as c.overflow.new.came None None _ _ (ap (λ (x : Came). x.wrote) came) (ap (λ (x : Came). x.flight) came)
          (ap (λ (b : Book g.row.D.Denot g.D.Disk). g.D.Disk.device_calls (disk_of b)) full.3);
      tidy = λ tick. subst (λ (t : Option Tables). IfSome t IsTidy) (sym c.overflow.ensures.tables);
      same = c.overflow.ensures.same;
    }
