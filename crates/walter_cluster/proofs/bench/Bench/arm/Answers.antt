use Rattle.std.proofs.Common.{◌≡◌, ◌<◌, length, set, refl, arith, ap, subst}
use Rattle.std.specs.Prelude.{OnErr, OnOk}
use Rattle.std.proofs.lemmas.Result.{on_ok_weaker, on_err_weaker}
use Rattle.walter_outbox.specs.Lanes.{mets}
use Rattle.walter_cluster.specs.Benches.{BenchValue, Keeps}
use Rattle.walter_cluster.specs.Moments.{ArmsAt, moment_of}
use Rattle.walter_cluster.proofs.Changes.{ChangesOne}
use Rattle.walter_cluster.proofs.Benches.{one_at, all_met_kept, same_moment, arms_there}
use Rattle.walter_cluster.proofs.Keeping.{each_one, whole_kept}
use Rattle.walter_cluster.proofs.bench.Bench.arm.Given.{Over}
use Rattle.walter_cluster.proofs.bench.Bench.arm.Goals.{After-arm}
use Rattle.walter_cluster.proofs.bench.Bench.arm.Goals as goal

-- the cell of the site whose disk was armed
module _ (g : Over) (c : After-arm g) where
  abbrev old : BenchValue g.row.D.Denot
  old = record { cells = c.self.inside.cells.items; homes = c.self.inside.homes.items }

  abbrev new : BenchValue g.row.D.Denot
  new = record { cells = set old.cells c.from.result c.arm.new.self; homes = old.homes }

  one : ChangesOne old.cells new.cells c.args.site.0 c.index_mut.result.now c.arm.new.self
  one =
      let there : c.args.site.0 < length old.cells = rw (← c.self.view_is) at c.requires.there in
      one_at old.cells c.from.result c.args.site.0 c.index_mut.result.now c.arm.new.self c.from.ensures there c.index_mut.ensures.value

pub index_mut-requires : goal.index_mut-requires
index_mut-requires g c =
    let there : c.args.site.0 < length c.self.inside.cells.items = rw (← c.self.view_is) at c.requires.there in
    let long = c.self.inside.cells.ok.0 in
    let from = c.from.ensures in
    omega (arith, there, long, from)

pub invariant_of-self : goal.invariant_of-self
invariant_of-self g c =
    let at = (goal.at.invariant_of-self g c).After-arm in
    whole_kept g.D.Disk _ _ _ _ _ _ (each_one g.D.Disk _ _ _ _ _ (one g at) c.arm.ensures.keeps) c.self.invariant

pub returns-clause-keeps : goal.returns-clause-keeps
returns-clause-keeps g c =
    let at = (goal.at.returns-clause-keeps g c).After-arm in
    subst (λ (v : BenchValue g.row.D.Denot). Keeps g.D.Disk v (new g at)) c.self.view_is
    (record {
      cells = each_one g.D.Disk _ _ _ _ _ (one g at) c.arm.ensures.keeps;
      homes = refl;
      met = all_met_kept g.D.Disk _ _ c.args.site _ _ (one g at) (ap (λ os. mets os) c.arm.ensures.outs) c.arm.ensures.ins;
    })

pub returns-clause-arms : goal.returns-clause-arms
returns-clause-arms g c =
    let at = (goal.at.returns-clause-arms g c).After-arm in
    subst (λ (v : BenchValue g.row.D.Denot). OnOk c.arm.result
    (ArmsAt c.args.site c.args.nth c.args.choice (moment_of g.D.Disk v.cells) (moment_of g.D.Disk (new g at).cells))) c.self.view_is
    (on_ok_weaker c.arm.result
    (arms_there g.D.Disk _ _ c.args.site _ _ (one g at) c.args.nth c.args.choice c.arm.ensures.trail c.arm.ensures.ins c.arm.ensures.calls) c.arm.ensures.armed)

pub returns-clause-kept : goal.returns-clause-kept
returns-clause-kept g c =
    let at = (goal.at.returns-clause-kept g c).After-arm in
    subst (λ (v : BenchValue g.row.D.Denot). OnErr c.arm.result (moment_of g.D.Disk (new g at).cells ≡ moment_of g.D.Disk v.cells)) c.self.view_is
    (on_err_weaker c.arm.result (same_moment g.D.Disk _ _ c.args.site _ _ (one g at) c.arm.ensures.trail c.arm.ensures.ins c.arm.ensures.calls) c.arm.ensures.unarmed)
