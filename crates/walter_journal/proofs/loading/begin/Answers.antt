use Rattle.std.proofs.Common.{◌≡◌, ◌≤◌, ◌++◌, ◌∷◌, [], length, refl, sym, ap, subst, rules}
use Rattle.std.specs.Prelude.{IfSome}
use Rattle.walter_disk.specs.Images.{LeavesOnly}
use Rattle.walter_journal.specs.Layout.{header_in}
use Rattle.walter_journal.specs.Steps.{IsReady}
use Rattle.walter_journal.proofs.Beginning.{begun, new_content}
use Rattle.walter_journal.proofs.loading.begin.Goals as goal

pub returns-in_err-write_and_sync-clause-first : goal.returns-in_err-write_and_sync-clause-first
returns-in_err-write_and_sync-clause-first g c only =
    subst (λ n. LeavesOnly g.D.Disk.moment g.D.Disk.left_since c.args.disk.now c.write_and_sync.new.disk (λ image. length image ≤ n)) (ap length c.empty_in.ensures)
    (begun _ _ g.D.Disk.may_leave g.met.D.Disk.only_now _ _ _ (length c.empty_in.result) only c.reserve.ensures.crash c.reserve.ensures.time (c.write_and_sync.ensures.any_moment _ (λ image left. only image (c.reserve.ensures.crash image left))))

pub returns-clause-first : goal.returns-clause-first
returns-clause-first g c only =
    subst (λ n. LeavesOnly g.D.Disk.moment g.D.Disk.left_since c.args.disk.now c.write_and_sync.new.disk (λ image. length image ≤ n)) (ap length c.empty_in.ensures)
    (begun _ _ g.D.Disk.may_leave g.met.D.Disk.only_now _ _ _ (length c.empty_in.result) only c.reserve.ensures.crash c.reserve.ensures.time (c.write_and_sync.ensures.any_moment _ (λ image left. only image (c.reserve.ensures.crash image left))))

pub returns-clause-ok : goal.returns-clause-ok
returns-clause-ok g c =
    let told : IfSome (g.D.Disk.known c.write_and_sync.new.disk).reads (λ bytes. bytes ≡ header_in c.args.format ++ 0 ∷ []) = search rules in
    subst (λ bodies. IsReady c.args.format bodies 9 (g.D.Disk.may_leave c.write_and_sync.new.disk) (g.D.Disk.known c.write_and_sync.new.disk)) (sym c.new.ensures) record {
      content = new_content c.args.format _ told;
      durable = c.in_ok-write_and_sync.ensures.durable;
      whole = search rules;
      behind = refl;
      within = search rules;
    }
