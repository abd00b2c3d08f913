use Rattle.std.proofs.Common.{◌≤◌, refl, sym, ap, subst, ◌∙◌, arith}
use Rattle.walter_disk.specs.Disks.{DiskState}
use Rattle.walter_disk.specs.Images.{IsDurable, LeavesOnly}
use Rattle.walter_checkpoint.specs.Areas.{area_size}
use Rattle.walter_checkpoint.specs.Books.{HasLaid, disk_of, shape_of}
use Rattle.walter_checkpoint.proofs.Booking.{wrote, switched, stands_anew, changes, stands_packed, goes_on, switch_is, calls_are, other_is}
use Rattle.walter_checkpoint.proofs.book.Book.pack.Goals as goal

pub returns-in_err-write_pack-clause-any_moment : goal.returns-in_err-write_pack-clause-any_moment
returns-in_err-write_pack-clause-any_moment g c bodies stands ready =
    wrote c.args.self.now bodies stands c.in_default.not-Whole c.other_area-at.result c.other_area-at.ensures (g.met.D.Disk.size_is _) (c.requires.room.two c.in_default.not-Whole) _ c.deref-2.result.now c.deref-2.ensures.value c.write_pack.ensures.any_moment

pub returns-in_err-write_pack-clause-at_most : goal.returns-in_err-write_pack-clause-at_most
returns-in_err-write_pack-clause-at_most g c =
    let long : 9 ≤ (g.D.Disk.known (disk_of c.args.self.now)).size = omega (arith, c.args.self.now.journal.begun, c.args.self.now.journal.within) in
    let calls = calls_are (shape_of c.args.self.now) c.args.self.now.live c.other_area-at.result (g.D.Disk.known (disk_of c.args.self.now)).size long c.in_default.not-Whole c.other_area-at.ensures in
    omega (arith, calls, c.write_pack.ensures.at_most)

pub returns-in_err-write_elsewhere-clause-any_moment : goal.returns-in_err-write_elsewhere-clause-any_moment
returns-in_err-write_elsewhere-clause-any_moment g c bodies stands ready =
    switched c.args.self.now bodies stands c.in_default.not-Whole c.other_area-at.result c.other_area-at.ensures (g.met.D.Disk.size_is _) (c.requires.room.two c.in_default.not-Whole) _ _ c.deref-2.result.now ready
    record { is = c.deref-2.ensures.value; first = c.write_pack.ensures.any_moment; done = c.in_ok-write_pack.ensures.done; durable = c.in_ok-write_pack.ensures.durable }
    c.write_elsewhere.ensures.any_moment

pub returns-clause-any_moment : goal.returns-clause-any_moment
returns-clause-any_moment g c bodies stands ready =
    subst (λ disk. LeavesOnly g.D.Disk.moment g.D.Disk.left_since (disk_of c.args.self.now) disk (λ image. HasLaid c.args.self.now.live (shape_of c.args.self.now) image bodies)) (sym c.go_on.ensures.disk)
    (switched c.args.self.now bodies stands c.in_default.not-Whole c.other_area-at.result c.other_area-at.ensures (g.met.D.Disk.size_is _) (c.requires.room.two c.in_default.not-Whole) _ _ c.deref-2.result.now ready
    record { is = c.deref-2.ensures.value; first = c.write_pack.ensures.any_moment; done = c.in_ok-write_pack.ensures.done; durable = c.in_ok-write_pack.ensures.durable }
    c.write_elsewhere.ensures.any_moment)

pub returns-clause-ok : goal.returns-clause-ok
returns-clause-ok g c bodies stands ready =
    changes c.args.self.now.live c.args.self.now _ _ c.in_default.not-Whole
    (stands_anew c.args.self.now bodies stands c.in_default.not-Whole c.other_area-at.result c.other_area-at.ensures (g.met.D.Disk.size_is _) (c.requires.room.two c.in_default.not-Whole) _ _ c.deref-2.result.now ready
    record { is = c.deref-2.ensures.value; first = c.write_pack.ensures.any_moment; done = c.in_ok-write_pack.ensures.done; durable = c.in_ok-write_pack.ensures.durable }
    record {
      shape = refl;
      live = refl;
      end = c.go_on.ensures.end ∙ omega (arith, c.len.ensures);
      limit = c.go_on.ensures.capacity;
      done = ap g.D.Disk.known c.go_on.ensures.disk ∙ c.in_ok-write_elsewhere.ensures.done;
      whole = c.in_ok-write_elsewhere.ensures.whole;
      durable = subst (λ disk. IsDurable (g.D.Disk.known disk).reads (g.D.Disk.may_leave disk)) (sym c.go_on.ensures.disk) c.in_ok-write_elsewhere.ensures.durable;
    })

pub returns-clause-goes_on : goal.returns-clause-goes_on
returns-clause-goes_on g c bodies ready =
    changes c.args.self.now.live c.args.self.now _ _ c.in_default.not-Whole
    (goes_on c.args.self.now _ bodies c.other_area-at.result c.other_area-at.ensures refl refl (c.go_on.ensures.end ∙ omega (arith, c.len.ensures)) c.go_on.ensures.capacity (ready.is c.in_default.not-Whole))

pub returns-clause-stands : goal.returns-clause-stands
returns-clause-stands g c bodies stands ready = stands_packed c.args.self.now.live c.args.self.now _ bodies c.in_default.not-Whole (returns-clause-ok g c bodies stands ready)

pub returns-clause-switch : goal.returns-clause-switch
returns-clause-switch g c not_whole =
    let known = g.D.Disk.known in
    let mid = known c.write_pack.new.journal.disk in
    let long : 9 ≤ mid.size = omega (arith, c.args.self.now.journal.begun, c.args.self.now.journal.within, ap (λ (disk : DiskState). disk.size) c.in_ok-write_pack.ensures.done) in
    switch_is (area_size (shape_of c.args.self.now)) c.args.self.now.live c.other_area-at.result mid _ c.other_area-at.ensures long (g.met.D.Disk.size_is _)
    (ap known c.go_on.ensures.disk ∙ c.in_ok-write_elsewhere.ensures.done)

pub returns-clause-room : goal.returns-clause-room
returns-clause-room g c n room =
    let place = other_is (shape_of c.args.self.now) c.args.self.now.live c.other_area-at.result c.other_area-at.ensures in
    let two = room.two c.in_default.not-Whole in
    let first = c.write_pack.ensures.room in
    let second = c.write_elsewhere.ensures.room in
    record {
      reaches = omega (arith, c.go_on.ensures.end, c.len.ensures, two.reaches, place, first.no_nearer, second.no_nearer, ap g.D.Disk.room_end c.go_on.ensures.disk);
      calls = omega (arith, two.calls, place, first.no_fewer, second.no_fewer, ap g.D.Disk.room_calls c.go_on.ensures.disk);
      holds = omega (arith, room.now.holds, c.write_pack.ensures.staged, c.write_elsewhere.ensures.staged, c.go_on.ensures.staged);
    }
