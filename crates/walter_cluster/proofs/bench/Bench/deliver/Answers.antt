use Rattle.std.proofs.Common.{◌≡◌, ◌<◌, ◌≢◌, ℕ, length, refl, sym, ◌∙◌, subst, arith, Some, slice_get}
use Rattle.std.proofs.lemmas.Result.{IfOk-weaker, on_err_weaker}
use Rattle.walter_cluster.specs.Benches.{BenchValue, IsBench}
use Rattle.walter_cluster.specs.Meetings.{HasArrived, HasGathered}
use Rattle.walter_cluster.specs.Moments.{at_once}
use Rattle.walter_cluster.proofs.Benches.{on_err_so}
use Rattle.walter_cluster.proofs.Gathering.{read_here, has_place, is_spent, gathered_keeps, gathered_calls, gathered_drops, gathered_trails, gathered_arms, lanes_here, one, site_here, now_keeps, now_calls, now_drops, now_arms, now_trails, now_moves}
use Rattle.walter_cluster.proofs.Keeping.{bench_self, each_one, whole_kept}
use Rattle.walter_cluster.proofs.bench.Bench.deliver.Given.{Over}
use Rattle.walter_cluster.proofs.bench.Bench.deliver.Goals.{After-is_spent, After-gather, After-index_mut}
use Rattle.walter_cluster.proofs.bench.Bench.deliver.Goals as goal

-- ---- the site, before all arrives there

module _ (g : Over) (c : After-is_spent g) where
  here : slice_get c.args.self.now.cells c.args.to.0 ≡ Some c.index.result.now
  here = read_here (record { cells = c.self.inside.cells.items; homes = c.self.inside.homes.items }) c.args.self.now c.from-place.result c.args.to
      c.index.result.now c.self.view_is c.from-place.ensures c.requires.to c.index.ensures

-- the trail is spent
pub returns-then-is_spent-clause-keeps : goal.returns-then-is_spent-clause-keeps
returns-then-is_spent-clause-keeps g c = bench_self g.D.Disk c.args.self.now

pub returns-then-is_spent-clause-moves : goal.returns-then-is_spent-clause-moves
returns-then-is_spent-clause-moves g c =
    let at = (goal.at.returns-then-is_spent-clause-moves g c).After-is_spent in
    at_once (is_spent g.D.Disk c.args.self.now.cells c.args.to c.index.result.now (here g at) (c.is_spent.ensures.0 c.if-is_spent.true)) refl

-- ---- all arrives

module _ (g : Over) (c : After-gather g) where
  is : IsBench c.args.self.now
  is = subst (λ (v : BenchValue g.row.D.Denot). IsBench v) c.self.view_is c.self.invariant.0

pub returns-in_err-gather-clause-keeps : goal.returns-in_err-gather-clause-keeps
returns-in_err-gather-clause-keeps g c =
    let at = (goal.at.returns-in_err-gather-clause-keeps g c).After-gather in
    gathered_keeps g.D.Disk _ _ c.args.to (is g at) c.requires.to c.gather.ensures.gathers

pub returns-in_err-gather-clause-drops : goal.returns-in_err-gather-clause-drops
returns-in_err-gather-clause-drops g c =
    let at = (goal.at.returns-in_err-gather-clause-drops g c).After-gather in
    gathered_drops g.D.Disk _ _ c.args.to (is g at) c.requires.to c.gather.ensures.gathers

pub returns-in_err-gather-clause-calls : goal.returns-in_err-gather-clause-calls
returns-in_err-gather-clause-calls g c =
    let at = (goal.at.returns-in_err-gather-clause-calls g c).After-gather in
    gathered_calls g.D.Disk _ _ c.args.to (is g at) c.requires.to c.gather.ensures.gathers

pub returns-in_err-gather-clause-kept : goal.returns-in_err-gather-clause-kept
returns-in_err-gather-clause-kept g c =
    let at = (goal.at.returns-in_err-gather-clause-kept g c).After-gather in
    on_err_so c.from_residual.result _ (gathered_trails g.D.Disk _ _ c.args.to (is g at) c.requires.to c.gather.ensures.gathers)

pub returns-in_err-gather-clause-arms : goal.returns-in_err-gather-clause-arms
returns-in_err-gather-clause-arms g c =
    let at = (goal.at.returns-in_err-gather-clause-arms g c).After-gather in
    gathered_arms g.D.Disk _ _ c.args.to (is g at) c.requires.to c.gather.ensures.gathers

-- ---- the packet is delivered

module _ (g : Over) (c : After-index_mut g) where
  abbrev mid : BenchValue g.row.D.Denot
  mid = record { cells = c.self-2.inside.cells.items; homes = c.self-2.inside.homes.items }

  gathers : HasGathered c.args.to.0 c.args.self.now mid
  gathers = subst (λ (v : BenchValue g.row.D.Denot). HasGathered c.args.to.0 c.args.self.now v) (sym c.self-2.view_is) c.gather.ensures.gathers

  now_is : IsBench c.args.self.now
  now_is = subst (λ (v : BenchValue g.row.D.Denot). IsBench v) c.self.view_is c.self.invariant.0

  arrives : (from : ℕ) → from < length c.args.self.now.cells → from ≢ c.args.to.0 → HasArrived c.args.self.now.cells mid.cells c.args.to.0 from
  arrives =
      subst (λ (v : BenchValue g.row.D.Denot). (from : ℕ) → from < length c.args.self.now.cells → from ≢ c.args.to.0
      → HasArrived c.args.self.now.cells v.cells c.args.to.0 from) (sym c.self-2.view_is) c.in_ok-gather.ensures.arrives

pub deliver-requires-clause-from : goal.deliver-requires-clause-from
deliver-requires-clause-from g c =
    let at = (goal.at.deliver-requires-clause-from g c).After-index_mut in
    let a = c.index_mut.result.now in
    let lanes = lanes_here g.D.Disk _ _ c.args.to (now_is g at) c.requires.to (gathers g at) (arrives g at) c.from-place.result a a
    c.from-place.ensures c.index_mut.ensures.value in
    let from = c.requires.from in
    omega (arith, from, lanes)

pub deliver-requires-clause-apart : goal.deliver-requires-clause-apart
deliver-requires-clause-apart g c =
    let at = (goal.at.deliver-requires-clause-apart g c).After-index_mut in
    let a = c.index_mut.result.now in
    λ same. c.requires.apart (same ∙ site_here g.D.Disk _ _ c.args.to (now_is g at) c.requires.to (gathers g at) (arrives g at) c.from-place.result a a
    c.from-place.ensures c.index_mut.ensures.value)

pub invariant_of-self : goal.invariant_of-self
invariant_of-self g c =
    let at = (goal.at.invariant_of-self g c).After-index_mut in
    whole_kept g.D.Disk _ _ _ _ _ _ (each_one g.D.Disk _ _ _ _ _
    (one g.D.Disk _ _ c.args.to (now_is g at) c.requires.to (gathers g at) (arrives g at) c.from-place.result c.index_mut.result.now c.deliver.new.self
    c.from-place.ensures c.index_mut.ensures.value) c.deliver.ensures.proceeds.keeps) c.self-2.invariant

pub returns-clause-keeps : goal.returns-clause-keeps
returns-clause-keeps g c =
    let at = (goal.at.returns-clause-keeps g c).After-index_mut in
    now_keeps g.D.Disk _ _ c.args.to (now_is g at) c.requires.to (gathers g at) (arrives g at) c.from-place.result c.index_mut.result.now c.deliver.new.self
    c.from-place.ensures c.index_mut.ensures.value c.deliver.ensures.proceeds

pub returns-clause-drops : goal.returns-clause-drops
returns-clause-drops g c =
    let at = (goal.at.returns-clause-drops g c).After-index_mut in
    now_drops g.D.Disk _ _ c.args.to (now_is g at) c.requires.to (gathers g at) (arrives g at) c.from-place.result c.index_mut.result.now c.deliver.new.self
    c.from-place.ensures c.index_mut.ensures.value c.deliver.ensures.proceeds

pub returns-clause-calls : goal.returns-clause-calls
returns-clause-calls g c =
    let at = (goal.at.returns-clause-calls g c).After-index_mut in
    now_calls g.D.Disk _ _ c.args.to (now_is g at) c.requires.to (gathers g at) (arrives g at) c.from-place.result c.index_mut.result.now c.deliver.new.self
    c.from-place.ensures c.index_mut.ensures.value c.deliver.ensures.proceeds

pub returns-clause-arms : goal.returns-clause-arms
returns-clause-arms g c =
    let at = (goal.at.returns-clause-arms g c).After-index_mut in
    now_arms g.D.Disk _ _ c.args.to (now_is g at) c.requires.to (gathers g at) (arrives g at) c.from-place.result c.index_mut.result.now c.deliver.new.self
    c.from-place.ensures c.index_mut.ensures.value c.deliver.ensures.proceeds

pub returns-clause-kept : goal.returns-clause-kept
returns-clause-kept g c =
    let at = (goal.at.returns-clause-kept g c).After-index_mut in
    on_err_weaker c.deliver.result
    (now_trails g.D.Disk _ _ c.args.to (now_is g at) c.requires.to (gathers g at) (arrives g at) c.from-place.result c.index_mut.result.now c.deliver.new.self
    c.from-place.ensures c.index_mut.ensures.value c.deliver.ensures.proceeds) c.deliver.ensures.kept

pub returns-clause-moves : goal.returns-clause-moves
returns-clause-moves g c =
    let points = goal.at.returns-clause-moves g c in
    let at = points.After-index_mut in
    let place = has_place g.D.Disk c.args.self.now.cells c.args.to c.index.result.now (here g points.After-is_spent)
    (λ spent. let e = c.is_spent.ensures.1 spent in let f = c.if-is_spent.false in absurd cc) in
    IfOk-weaker c.deliver.result _ _
    (λ z moves. now_moves g.D.Disk _ _ c.args.to (now_is g at) c.requires.to (gathers g at) (arrives g at) c.from-place.result c.index_mut.result.now
    c.deliver.new.self c.from-place.ensures c.index_mut.ensures.value c.deliver.ensures.proceeds c.args.from c.args.number z c.requires.apart
    c.requires.from place moves) c.deliver.ensures.moves
