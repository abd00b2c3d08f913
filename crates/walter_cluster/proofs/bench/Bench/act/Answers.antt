use Rattle.std.proofs.Common.{◌≡◌, ◌<◌, Some, length, set, slice_get, arith, sym, subst}
use Rattle.std.specs.Prelude.{IfOk, OnErr}
use Rattle.std.proofs.lemmas.Result.{IfOk-weaker, on_err_weaker}
use Rattle.walter_cluster.specs.Benches.{BenchValue, Keeps, trails_of}
use Rattle.walter_cluster.specs.Moments.{KeepsArms, ActsAt, CallsDisk, Drops, moment_of}
use Rattle.walter_cell.specs.Cells.{CellValue}
use Rattle.walter_cluster.proofs.Changes.{ChangesOne, one_there}
use Rattle.walter_cluster.proofs.Benches.{one_at, trails_kept, proceeds_keeps, proceeds_arms, proceeds_calls, proceeds_drops, acts_at}
use Rattle.walter_cluster.proofs.Keeping.{each_one, whole_kept}
use Rattle.walter_cluster.proofs.bench.Bench.act.Given.{Over}
use Rattle.walter_cluster.proofs.bench.Bench.act.Goals.{After-act}
use Rattle.walter_cluster.proofs.bench.Bench.act.Goals as goal

-- the cell of the site behind the event
module _ (g : Over) (c : After-act g) where
  abbrev old : BenchValue g.row.D.Denot
  old = record { cells = c.self.inside.cells.items; homes = c.self.inside.homes.items }

  abbrev new : BenchValue g.row.D.Denot
  new = record { cells = set old.cells c.from.result c.act.new.self; homes = old.homes }

  one : ChangesOne old.cells new.cells c.args.site.0 c.index_mut.result.now c.act.new.self
  one =
      let there : c.args.site.0 < length old.cells = rw (← c.self.view_is) at c.requires.there in
      one_at old.cells c.from.result c.args.site.0 c.index_mut.result.now c.act.new.self c.from.ensures there c.index_mut.ensures.value

pub index_mut-requires : goal.index_mut-requires
index_mut-requires g c =
    let there : c.args.site.0 < length c.self.inside.cells.items = rw (← c.self.view_is) at c.requires.there in
    let long = c.self.inside.cells.ok.0 in
    let from = c.from.ensures in
    omega (arith, there, long, from)

pub invariant_of-self : goal.invariant_of-self
invariant_of-self g c =
    let at = (goal.at.invariant_of-self g c).After-act in
    whole_kept g.D.Disk _ _ _ _ _ _ (each_one g.D.Disk _ _ _ _ _ (one g at) c.act.ensures.proceeds.keeps) c.self.invariant

pub returns-clause-keeps : goal.returns-clause-keeps
returns-clause-keeps g c =
    let at = (goal.at.returns-clause-keeps g c).After-act in
    subst (λ (v : BenchValue g.row.D.Denot). Keeps g.D.Disk v (new g at)) c.self.view_is
    (proceeds_keeps g.D.Disk _ _ c.args.site _ _ (one g at) (old g at).homes c.act.ensures.proceeds)

pub returns-clause-arms : goal.returns-clause-arms
returns-clause-arms g c =
    let at = (goal.at.returns-clause-arms g c).After-act in
    subst (λ (v : BenchValue g.row.D.Denot). KeepsArms (moment_of g.D.Disk v.cells) (moment_of g.D.Disk (new g at).cells)) c.self.view_is
    (proceeds_arms g.D.Disk _ _ c.args.site _ _ (one g at) (old g at).homes c.act.ensures.proceeds)

pub returns-clause-drops : goal.returns-clause-drops
returns-clause-drops g c =
    let at = (goal.at.returns-clause-drops g c).After-act in
    subst (λ (v : BenchValue g.row.D.Denot). Drops g.D.Disk c.args.site v (new g at)) c.self.view_is
    (proceeds_drops g.D.Disk _ _ c.args.site _ _ (one g at) (old g at).homes c.act.ensures.proceeds
    (c.self.invariant.0.cells c.args.site.0 _ (one g at).was).site)

pub returns-clause-calls : goal.returns-clause-calls
returns-clause-calls g c =
    let at = (goal.at.returns-clause-calls g c).After-act in
    subst (λ (v : BenchValue g.row.D.Denot). CallsDisk g.D.Disk c.args.site v (new g at)) c.self.view_is
    (proceeds_calls g.D.Disk _ _ c.args.site _ _ (one g at) (old g at).homes c.act.ensures.proceeds
    (c.self.invariant.0.cells c.args.site.0 _ (one g at).was).site)

pub returns-clause-acts : goal.returns-clause-acts
returns-clause-acts g c =
    let at = (goal.at.returns-clause-acts g c).After-act in
    subst (λ (v : BenchValue g.row.D.Denot). IfOk c.act.result
    (ActsAt c.args.site c.args.event (moment_of g.D.Disk v.cells) (moment_of g.D.Disk (new g at).cells))) c.self.view_is
    (IfOk-weaker c.act.result _ _ (λ answer. acts_at g.D.Disk _ _ c.args.site _ _ (one g at) c.args.event answer c.act.ensures.proceeds) c.act.ensures.acts)

pub returns-clause-kept : goal.returns-clause-kept
returns-clause-kept g c =
    let at = (goal.at.returns-clause-kept g c).After-act in
    subst (λ (v : BenchValue g.row.D.Denot). OnErr c.act.result (trails_of (new g at).cells ≡ trails_of v.cells)) c.self.view_is
    (on_err_weaker c.act.result (trails_kept g.D.Disk _ _ c.args.site _ _ (one g at)) c.act.ensures.kept)

pub returns-clause-roomy : goal.returns-clause-roomy
returns-clause-roomy g c cell at room =
    let d = (goal.at.returns-clause-roomy g c).After-act in
    let there : slice_get (old g d).cells c.args.site.0 ≡ Some cell = rw (← c.self.view_is) at at in
    let is : d.index_mut.result.now ≡ cell = one_there (old g d).cells c.args.site.0 d.index_mut.result.now cell (one g d).was there in
    d.act.ensures.roomy (subst (λ (x : CellValue g.row.D.Denot). 0 < x.node.room) (sym is) room)
