use Rattle.std.proofs.Common.{◌≡◌, ◌+◌, ◌≤◌, length, take, replicate, ap, ◌∙◌, arith}
use Rattle.std.proofs.lemmas.List.{length-take, take-replicate}
use Rattle.walter_journal.proofs.Zeros.{grown_more, grown_since, filled_on}
use Rattle.walter_journal.proofs.filling.fill.Goals as goal

pub returns-in_err-write_at-clause-crash : goal.returns-in_err-write_at-clause-crash
returns-in_err-write_at-clause-crash g c =
    let invariant = c.loop-at.invariant in
    let within : c.loop-at.at + length (take c.min-count.result c.args.zeros.now) ≤ c.args.to = omega (arith, c.loop-at-test.true, c.min-count.ensures, length-take c.min-count.result c.args.zeros.now) in
    grown_more g.D.Disk.moment g.D.Disk.left_since g.D.Disk.may_leave g.met.D.Disk.only_now (g.D.Disk.known c.args.disk.now).size c.args.to c.loop-at.at _ invariant.behind within _ _ _ invariant.crash c.write_at.ensures.crash

pub returns-in_err-write_at-clause-any_moment : goal.returns-in_err-write_at-clause-any_moment
returns-in_err-write_at-clause-any_moment g c =
    let invariant = c.loop-at.invariant in
    let within : c.loop-at.at + length (take c.min-count.result c.args.zeros.now) ≤ c.args.to = omega (arith, c.loop-at-test.true, c.min-count.ensures, length-take c.min-count.result c.args.zeros.now) in
    grown_since g.D.Disk.moment g.D.Disk.left_since g.D.Disk.may_leave g.met.D.Disk.only_now (g.D.Disk.known c.args.disk.now).size c.args.to c.loop-at.at _ invariant.behind within _ _ _ invariant.crash c.write_at.ensures.crash invariant.since c.write_at.ensures.time

pub loop-at-preserved : goal.loop-at-preserved
loop-at-preserved g c =
    let invariant = c.loop-at.invariant in
    let count = c.min-count.result in
    let is_count : length (take count c.args.zeros.now) ≡ count = omega (arith, c.min-count.ensures, length-take count c.args.zeros.now) in
    let within : c.loop-at.at + length (take count c.args.zeros.now) ≤ c.args.to = omega (arith, c.loop-at-test.true, c.min-count.ensures, is_count) in
    let zeros : take count c.args.zeros.now ≡ replicate count 0 = ap (take count) c.requires.zeros ∙ take-replicate count (length c.args.zeros.now) 0 (omega (arith, c.min-count.ensures)) in
    let on = c.in_ok-write_at.ensures in
    record {
      behind = omega (arith, invariant.behind);
      within = omega (arith, within, is_count);
      known = filled_on _ _ _ c.loop-at.at count _ (g.met.D.Disk.size_is c.args.disk.now) invariant.behind invariant.known zeros on.done;
      reaches = omega (arith, invariant.reaches, on.room.no_nearer);
      calls = omega (arith, invariant.calls, on.room.no_fewer, c.loop-at-test.true, c.min-count.ensures, c.requires.enough, c.requires.few, invariant.behind);
      device = omega (arith, invariant.device, on.device, c.loop-at-test.true, c.min-count.ensures, c.requires.enough, c.requires.few, invariant.behind);
      crash = grown_more g.D.Disk.moment g.D.Disk.left_since g.D.Disk.may_leave g.met.D.Disk.only_now (g.D.Disk.known c.args.disk.now).size c.args.to c.loop-at.at _ invariant.behind within _ _ _ invariant.crash c.write_at.ensures.crash;
      since = grown_since g.D.Disk.moment g.D.Disk.left_since g.D.Disk.may_leave g.met.D.Disk.only_now (g.D.Disk.known c.args.disk.now).size c.args.to c.loop-at.at _ invariant.behind within _ _ _ invariant.crash c.write_at.ensures.crash invariant.since c.write_at.ensures.time;
    }
