use Rattle.std.proofs.Common.{◌≡◌, ◌+◌, ◌<◌, ◌∷◌, [], ℕ, List, length, None, refl, ap, sym, ◌∙◌, subst, arith, inl}
use Rattle.std.specs.Prelude.{IfSome}
use Rattle.std.proofs.lemmas.List.{length-append}
use Rattle.walter_cluster.proofs.Opened.{untouched}
use Rattle.walter_cli.specs.Disks.{AreTaken}
use Rattle.walter_cli.specs.Racks.{RackAt, rack_at, racked}
use Rattle.walter_cli.specs.declared.ended.Fault.TheVariants.{Memory, Rack}
use Rattle.walter_inspect.proofs.Growing.{only_same}
use Rattle.walter_cli.specs.Audits.{IsKept}
use Rattle.walter_cli.proofs.Audited.{each_kept}
use Rattle.walter_cli.proofs.Early.{each_none, ends_before, ends_early}
use Rattle.walter_cli.proofs.Giving.{IsReturned, took_all, lacks_behind}
use Rattle.walter_cli.proofs.Racking.{taken_more, err_never}
use Rattle.walter_cli.proofs.disks.take_all.Goals as goal

pub returns-in_default-clause-fault : goal.returns-in_default-clause-fault
returns-in_default-clause-fault g c =
    let a : RackAt g.row.R-D.Denot = rack_at g.R.Rack c.args.rack.now in
    ends_before g.R.D.Disk a a c.args.scenario.now Memory refl refl refl (omega arith) (λ many. refl) tt

pub returns-in-Err-clause-fault : goal.returns-in-Err-clause-fault
returns-in-Err-clause-fault g c =
    let a : RackAt g.row.R-D.Denot = rack_at g.R.Rack c.args.rack.now in
    let b : RackAt g.row.R-D.Denot = rack_at g.R.Rack c.loop-site.rack in
    let d : RackAt g.row.R-D.Denot = rack_at g.R.Rack c.take.new.self in
    let e : RackAt g.row.R-D.Denot = rack_at g.R.Rack c.give_all.new.rack in
    let is = c.loop-site.invariant in
    let taken = is.taken in
    let rose : b.faults < d.faults = c.in-Err.ensures.cause in
    let gives = c.give_all.ensures.given in
    let disks = c.loop-site.disks.items in
    let level = taken.faults in
    let is_back : IsReturned g.R.D.Disk a d e disks disks = record {
      told = taken.told;
      fresh = taken.fresh;
      same_given = c.in-Err.ensures.same_given ∙ taken.given;
      same_handed = c.in-Err.ensures.same_handed ∙ taken.handed;
      many = c.in-Err.ensures.same_taken ∙ taken.taken;
      level = omega (arith, level, rose);
      long = refl;
      gives = gives;
    } in
    ends_early g.R.D.Disk c.args.scenario.now a d e disks disks is_back (Rack c.loop-site.site)
    (λ i disk at. (disk, at, untouched g.R.D.Disk c.args.scenario.now disk))
    (λ many.
    let long = is.long in
    let within = c.loop-site-test.true in
    let few = c.requires.few in
    let left = taken.unfailing (omega (arith, many, long, within, few)) in
    let some : 0 < b.unfailing = omega (arith, many, long, within, few, left) in
    absurd (err_never c.take.result _ c.in-Err.is (c.take.ensures.sure some).0)) (
      c.loop-site-test.true,
      inl (record {
        failed = (let l = gives.level in omega (arith, level, rose, l));
        before = took_all g.R.D.Disk a d e disks disks is_back ∙ ap (λ (n : ℕ). a.taken + n) is.long;
        lacks = lacks_behind g.R.D.Disk a d e disks disks is_back c.loop-site.site (let l = is.long in omega (arith, l));
      }),
    )

pub returns-in_default-clause-kept : goal.returns-in_default-clause-kept
returns-in_default-clause-kept g c =
    let a : RackAt g.row.R-D.Denot = rack_at g.R.Rack c.args.rack.now in
    each_none g.R.D.Disk a a (IsKept (racked g.R.D.Disk a a)) refl

pub returns-in-Err-clause-untaken : goal.returns-in-Err-clause-untaken
returns-in-Err-clause-untaken g c =
    let a : RackAt g.row.R-D.Denot = rack_at g.R.Rack c.args.rack.now in
    let b : RackAt g.row.R-D.Denot = rack_at g.R.Rack c.loop-site.rack in
    let d : RackAt g.row.R-D.Denot = rack_at g.R.Rack c.take.new.self in
    let e : RackAt g.row.R-D.Denot = rack_at g.R.Rack c.give_all.new.rack in
    let is = c.loop-site.invariant in
    let taken = is.taken in
    let rose : b.faults < d.faults = c.in-Err.ensures.cause in
    let gives = c.give_all.ensures.given in
    let disks = c.loop-site.disks.items in
    let level = taken.faults in
    let is_back : IsReturned g.R.D.Disk a d e disks disks = record {
      told = taken.told;
      fresh = taken.fresh;
      same_given = c.in-Err.ensures.same_given ∙ taken.given;
      same_handed = c.in-Err.ensures.same_handed ∙ taken.handed;
      many = c.in-Err.ensures.same_taken ∙ taken.taken;
      level = omega (arith, level, rose);
      long = refl;
      gives = gives;
    } in (
      c.loop-site-test.true,
      record {
        failed = (let l = gives.level in omega (arith, level, rose, l));
        before = took_all g.R.D.Disk a d e disks disks is_back ∙ ap (λ (n : ℕ). a.taken + n) is.long;
        lacks = lacks_behind g.R.D.Disk a d e disks disks is_back c.loop-site.site (let l = is.long in omega (arith, l));
      },
    )

pub returns-in-Err-clause-kept : goal.returns-in-Err-clause-kept
returns-in-Err-clause-kept g c =
    let a : RackAt g.row.R-D.Denot = rack_at g.R.Rack c.args.rack.now in
    let b : RackAt g.row.R-D.Denot = rack_at g.R.Rack c.loop-site.rack in
    let d : RackAt g.row.R-D.Denot = rack_at g.R.Rack c.take.new.self in
    let e : RackAt g.row.R-D.Denot = rack_at g.R.Rack c.give_all.new.rack in
    let is = c.loop-site.invariant in
    let taken = is.taken in
    let rose : b.faults < d.faults = c.in-Err.ensures.cause in
    let gives = c.give_all.ensures.given in
    let disks = c.loop-site.disks.items in
    let level = taken.faults in
    let is_back : IsReturned g.R.D.Disk a d e disks disks = record {
      told = taken.told;
      fresh = taken.fresh;
      same_given = c.in-Err.ensures.same_given ∙ taken.given;
      same_handed = c.in-Err.ensures.same_handed ∙ taken.handed;
      many = c.in-Err.ensures.same_taken ∙ taken.taken;
      level = omega (arith, level, rose);
      long = refl;
      gives = gives;
    } in
    each_kept g.R.D.Disk c.args.scenario.now a d e disks disks is_back (only_same g.R.D.Disk disks)

pub loop-site-preserved : goal.loop-site-preserved
loop-site-preserved g c =
    let a : RackAt g.row.R-D.Denot = rack_at g.R.Rack c.args.rack.now in
    let b : RackAt g.row.R-D.Denot = rack_at g.R.Rack c.loop-site.rack in
    let d : RackAt g.row.R-D.Denot = rack_at g.R.Rack c.take.new.self in
    let is = c.loop-site.invariant in
    let e = c.in-Ok-take.ensures in
    let disks = c.loop-site.disks.items in
    let disk = c.in-Ok-take.disk in
    let longer = c.push_reserved.ensures.items in
    record {
      taken = subst (λ (ds : List g.row.R-D.Denot). AreTaken g.R.D.Disk a d ds) (sym longer)
          (taken_more g.R.D.Disk a b d disks disk is.taken
          (subst (λ (n : ℕ). IfSome b.disks (λ take. disk ≡ take None n)) (sym is.long) e.disk) e.fresh e.same_disks e.same_given
          e.same_handed e.taken e.faultless (λ some. (c.take.ensures.sure some).1));
      folder = e.same_folder ∙ is.folder;
      long = (let l = ap length longer in let m = length-append disks (disk ∷ []) in let n = is.long in omega (arith, l, m, n));
      room = (let r = is.room in let same = c.push_reserved.ensures.capacity in omega (arith, r, same));
    }
