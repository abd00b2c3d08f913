use Rattle.std.proofs.Common.{◌≡◌, [], map, false, None, sym, ◌∙◌, subst, ap, inl, inr, refl}
use Rattle.std.specs.Prelude.{is_some}
use Rattle.walter_checkpoint.specs.Books.{disk_of}
use Rattle.walter_disk.proofs.Moments.{joined}
use Rattle.walter_disk.specs.Disks.{DiskState}
use Rattle.walter_engine.proofs.Crashes.{stays_next}
use Rattle.walter_engine.proofs.Written.{fits_next, is_taken, want_is, takes_memory, faults_as, calls_as, sized_as, leaves_kept, same_kept, same_left, same_faults, same_calls, ups_same}
use Rattle.walter_engine.proofs.writing.write.Goals as goal
use Rattle.walter_engine.specs.Contents.{MayHaveNext}
use Rattle.walter_engine.specs.Writings.{IsOutcomeOf}
use Rattle.walter_machine.proofs.Records.{recordable_if}
use Rattle.walter_machine.proofs.Sizes.{sized_only}
use Rattle.walter_machine.specs.Comings.{is_faulty}
use Rattle.walter_machine.specs.Machines.{catalog_in, site_in, is_up}
use Rattle.walter_machine.specs.Readiness.{rec_in}
use Rattle.walter_packet.specs.Framed.{frame_of}
use Rattle.walter_rules.specs.Trails.{want}
use Rattle.walter_rules.specs.Sending.{Send}
use Rattle.walter_rules.specs.Standing.{up_after}
use Rattle.walter_rules.specs.declared.entry.Came.{Came}

pub spell_any-requires-clause-sized : goal.spell_any-requires-clause-sized
spell_any-requires-clause-sized g c =
    recordable_if (catalog_in c.args.machine.now).sites (rec_in c.args.ready.now) c.requires.anyway.ready_for.sized.wrote

pub spell_any-requires-clause-fits : goal.spell_any-requires-clause-fits
spell_any-requires-clause-fits g c =
    fits_next c.args.format (catalog_in c.args.machine.now) (site_in c.args.machine.now) c.requires.anyway.S
    (rec_in c.args.ready.now) c.requires.sites c.requires.anyway.ready_for.next

-- the book has room for what is spelled
pub returns-in-Ok : goal.returns-in-Ok
returns-in-Ok g c =
    let same = c.spell_any.ensures.same in
    let put = c.put.ensures in
    record {
      comes = λ layout S standing counted ready_for at spelled kept.
          put.comes layout S standing counted ready_for at spelled (same_kept layout S _ _ same kept);
      leaves = λ layout S standing counted ready_for at spelled kept.
          put.leaves layout S standing counted ready_for at spelled (same_kept layout S _ _ same kept);
      any_moment = λ layout S ready_for at kept.
          joined g.D.Disk.moment g.D.Disk.left_since (disk_of c.args.book.now) (disk_of c.spell_any.new.book) (disk_of c.put.new.book)
          (MayHaveNext (catalog_in c.args.machine.now) layout (site_in c.args.machine.now) S c.args.event.now None)
          (stays_next {g = g.D.Disk} (catalog_in c.args.machine.now) layout (site_in c.args.machine.now) S c.args.event.now c.args.book.now kept.laid kept.stands c.spell_any.new.book same)
          (put.any_moment layout S ready_for at (same_kept layout S _ _ same kept));
      outcome = subst (λ left. IsOutcomeOf c.args.format c.args.event.now c.args.ready.now left c.put.new.came.outcome) (same_left _ _ same) put.outcome;
      up = put.up;
      sent = put.sent;
      wrote = put.wrote;
      shape = put.shape ∙ same.book.shape;
      untouched = λ none. put.untouched none ∙ ap disk_of (c.spell_any.ensures.untouched none);
      sized = put.sized;
      framed = put.framed;
      none_dropped = put.none_dropped;
      none_kept = put.none_kept;
      faults = same_faults c.put.new.came _ _ _ (ap (λ (d : DiskState). d.faults) same.disk) put.faults;
      arms = put.arms ∙ ap (λ (d : DiskState). d.arms) same.disk;
      tells = put.tells ∙ ap (λ (d : DiskState). is_some d.reads) same.disk;
      device = same_calls c.put.new.came _ _ _ same.book.device put.device;
      tidy = put.tidy;
      same = put.same;
    }

-- memory ran out
pub returns-in-Err : goal.returns-in-Err
returns-in-Err g c =
    let came = c.want.ensures.came in
    let same = c.spell_any.ensures.same in
    record {
      comes = λ layout S standing counted ready_for at spelled kept.
          c.want.ensures.comes layout S (takes_memory (rec_in c.args.ready.now) _ c.in-Err.ensures.free ready_for.takes);
      leaves = λ layout S standing counted ready_for at spelled kept.
          leaves_kept {g = g.D.Disk} g.met.D.Disk.size_is (catalog_in c.args.machine.now) layout (site_in c.args.machine.now) S c.args.event.now spelled c.args.machine.now refl
          c.want.new.came (c.want.ensures.stands S standing (takes_memory (rec_in c.args.ready.now) _ c.in-Err.ensures.free ready_for.takes)) c.spell_any.new.book (same_kept layout S _ _ same kept)
          (ups_same (catalog_in c.args.machine.now) (site_in c.args.machine.now) S c.args.event.now c.want.new.came (want c.args.event.now) (ap (λ (x : Came). x.outcome) came) ((want_is c.args.event.now).3 S.up))
          (ap (λ (x : Came). x.wrote) came) (ap (λ (x : Came). x.flight) came);
      any_moment = λ layout S ready_for at kept.
          stays_next {g = g.D.Disk} (catalog_in c.args.machine.now) layout (site_in c.args.machine.now) S c.args.event.now c.args.book.now kept.laid kept.stands c.spell_any.new.book same;
      outcome = inr (inl (ap (λ (x : Came). x.outcome) came));
      up = sym (ap (λ (x : Came). up_after c.args.event.now x.outcome (is_up c.args.machine.now)) came ∙ (want_is c.args.event.now).3 (is_up c.args.machine.now));
      sent = λ none. ap (λ (x : Came). x.sends) came;
      wrote = λ taken. absurd (let e = sym (ap is_taken taken) ∙ ap (λ (x : Came). is_taken x.outcome) came ∙ (want_is c.args.event.now).4 in cc);
      shape = same.book.shape;
      untouched = λ none. absurd (let e = sym c.in-Err.ensures.free ∙ ap is_some none in cc);
      sized = sized_as _ c.want.new.came _ came (sized_only _ (want c.args.event.now) (want_is c.args.event.now).2);
      framed =
          let none : map (λ (e : Send). frame_of (catalog_in c.args.machine.now).sites e.1) c.want.new.came.sends ≡ [] = ap (λ (x : Came). map (λ (e : Send). frame_of (catalog_in c.args.machine.now).sites e.1) x.sends) came in
          cc;
      none_dropped = ap (λ (x : Came). x.dropped) came;
      none_kept = ap (λ (x : Came). x.kept) came;
      faults = faults_as c.want.new.came false _ _ (ap (λ (x : Came). is_faulty x.outcome) came ∙ (want_is c.args.event.now).0)
          (ap (λ (d : DiskState). d.faults) same.disk);
      arms = ap (λ (d : DiskState). d.arms) same.disk;
      tells = ap (λ (d : DiskState). is_some d.reads) same.disk;
      device = calls_as c.want.new.came None None _ _ (ap (λ (x : Came). x.wrote) came) (ap (λ (x : Came). x.flight) came) same.book.device;
      tidy = λ tick was. was;
      same = record { catalog = refl; id = refl };
    }
