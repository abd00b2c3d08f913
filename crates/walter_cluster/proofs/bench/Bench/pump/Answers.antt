use Rattle.std.proofs.Common.{◌≡◌, ◌<◌, ◌≢◌, ℕ, length, true, false, refl, ap, sym, ◌∙◌, subst, arith, Some, slice_get}
use Rattle.std.proofs.lemmas.Result.{IfOk-weaker, on_err_weaker}
use Rattle.walter_cell.specs.Cells.{CellValue}
use Rattle.walter_cell.specs.Nodes.{is_told, standing_of}
use Rattle.walter_cluster.specs.Benches.{BenchValue, IsBench}
use Rattle.walter_cluster.specs.Meetings.{HasArrived, HasGathered}
use Rattle.walter_rules.specs.Standing.{Standing}
use Rattle.walter_cluster.specs.Pumps.{at_once, raises}
use Rattle.walter_cluster.proofs.Benches.{on_err_so}
use Rattle.walter_cluster.proofs.Changes.{one_there}
use Rattle.walter_cluster.proofs.Gathering.{read_here, has_place, is_spent, stands_here, gathered_keeps, gathered_calls, gathered_drops, gathered_trails, gathered_arms, lanes_here, one, site_here, now_keeps, now_calls, now_drops, now_arms, now_trails, now_pump, now_pumps, now_taken, taken_here}
use Rattle.walter_cluster.proofs.Keeping.{bench_self, each_one, pump_kept, whole_kept}
use Rattle.walter_cluster.proofs.bench.Bench.pump.Given.{Over}
use Rattle.walter_cluster.proofs.bench.Bench.pump.Goals.{After-is_spent, After-is_up, After-gather, After-index_mut}
use Rattle.walter_cluster.proofs.bench.Bench.pump.Goals as goal

-- ---- the site, before all arrives there

module _ (g : Over) (c : After-is_spent g) where
  here : slice_get c.args.self.now.cells c.args.site.0 ≡ Some c.index.result.now
  here = read_here (record { cells = c.self.inside.cells.items; homes = c.self.inside.homes.items }) c.args.self.now c.from-place.result c.args.site
      c.index.result.now c.self.view_is c.from-place.ensures c.requires.there c.index.ensures

module _ (g : Over) (c : After-is_up g) where
  up_there : slice_get c.args.self.now.cells c.args.site.0 ≡ Some c.index-2.result.now
  up_there = read_here (record { cells = c.self.inside.cells.items; homes = c.self.inside.homes.items }) c.args.self.now c.from-place.result c.args.site
      c.index-2.result.now c.self.view_is c.from-place.ensures c.requires.there c.index-2.ensures

-- the trail is spent
pub returns-then-is_spent-clause-keeps : goal.returns-then-is_spent-clause-keeps
returns-then-is_spent-clause-keeps g c = bench_self g.D.Disk c.args.self.now

pub returns-then-is_spent-clause-pumps : goal.returns-then-is_spent-clause-pumps
returns-then-is_spent-clause-pumps g c = λ cell there.
    let at = (goal.at.returns-then-is_spent-clause-pumps g c).After-is_spent in
    at_once (is_spent g.D.Disk c.args.self.now.cells c.args.site c.index.result.now (here g at) (c.is_spent.ensures.0 c.if-is_spent.true)) refl refl refl

-- ---- the site is made anew

pub returns-in_err-restart-clause-pump : goal.returns-in_err-restart-clause-pump
returns-in_err-restart-clause-pump g c =
    pump_kept g.D.Disk c.args.self.now.cells c.restart.new.self.cells c.restart.ensures.keeps.cells c.args.site c.args.pump.now c.requires.pump

pub returns-in_err-restart-clause-taken : goal.returns-in_err-restart-clause-taken
returns-in_err-restart-clause-taken g c = on_err_so c.from_residual.result _ (0, refl)

pub returns-then-not-is_up-clause-pump : goal.returns-then-not-is_up-clause-pump
returns-then-not-is_up-clause-pump g c =
    pump_kept g.D.Disk c.args.self.now.cells c.restart.new.self.cells c.restart.ensures.keeps.cells c.args.site c.args.pump.now c.requires.pump

pub returns-then-not-is_up-clause-pumps : goal.returns-then-not-is_up-clause-pumps
returns-then-not-is_up-clause-pumps g c = λ cell there.
    let points = goal.at.returns-then-not-is_up-clause-pumps g c in
    let place = has_place g.D.Disk c.args.self.now.cells c.args.site c.index.result.now (here g points.After-is_spent)
    (λ spent. let e = c.is_spent.ensures.1 spent in let f = c.if-is_spent.false in absurd cc) in
    let same = one_there c.args.self.now.cells c.args.site.0 c.index-2.result.now cell (up_there g points.After-is_up) there in
    let down : is_told g.D.Disk cell.node.disk ≡ true → (standing_of cell.node).up ≡ false =
    subst (λ (b : CellValue g.row.D.Denot). is_told g.D.Disk b.node.disk ≡ true → (standing_of b.node).up ≡ false) same
    (λ told. let e = c.is_up.ensures told in let f = c.if-not-is_up.true in cc) in
    let site = (c.self.invariant.0.cells c.args.site.0 cell (rw (← c.self.view_is) at there)).site in
    raises c.in_ok-restart.field-0 place
    (λ told. ap (λ (S : Standing). S.up) (stands_here g.D.Disk c.args.self.now.cells c.args.site cell there site) ∙ down told)
    c.in_ok-restart.ensures.acts refl c.pumped.ensures

-- ---- all arrives

module _ (g : Over) (c : After-gather g) where
  is : IsBench c.args.self.now
  is = subst (λ (v : BenchValue g.row.D.Denot). IsBench v) c.self.view_is c.self.invariant.0

pub returns-in_err-gather-clause-keeps : goal.returns-in_err-gather-clause-keeps
returns-in_err-gather-clause-keeps g c =
    let at = (goal.at.returns-in_err-gather-clause-keeps g c).After-gather in
    gathered_keeps g.D.Disk _ _ c.args.site (is g at) c.requires.there c.gather.ensures.gathers

pub returns-in_err-gather-clause-pump : goal.returns-in_err-gather-clause-pump
returns-in_err-gather-clause-pump g c =
    let at = (goal.at.returns-in_err-gather-clause-pump g c).After-gather in
    pump_kept g.D.Disk _ _ (gathered_keeps g.D.Disk _ _ c.args.site (is g at) c.requires.there c.gather.ensures.gathers).cells c.args.site
    c.args.pump.now c.requires.pump

pub returns-in_err-gather-clause-taken : goal.returns-in_err-gather-clause-taken
returns-in_err-gather-clause-taken g c = on_err_so c.from_residual-in_err-gather.result _ (0, refl)

pub returns-in_err-gather-clause-drops : goal.returns-in_err-gather-clause-drops
returns-in_err-gather-clause-drops g c =
    let at = (goal.at.returns-in_err-gather-clause-drops g c).After-gather in
    gathered_drops g.D.Disk _ _ c.args.site (is g at) c.requires.there c.gather.ensures.gathers

pub returns-in_err-gather-clause-calls : goal.returns-in_err-gather-clause-calls
returns-in_err-gather-clause-calls g c =
    let at = (goal.at.returns-in_err-gather-clause-calls g c).After-gather in
    gathered_calls g.D.Disk _ _ c.args.site (is g at) c.requires.there c.gather.ensures.gathers

pub returns-in_err-gather-clause-kept : goal.returns-in_err-gather-clause-kept
returns-in_err-gather-clause-kept g c =
    let at = (goal.at.returns-in_err-gather-clause-kept g c).After-gather in
    on_err_so c.from_residual-in_err-gather.result _
    (gathered_trails g.D.Disk _ _ c.args.site (is g at) c.requires.there c.gather.ensures.gathers)

pub returns-in_err-gather-clause-arms : goal.returns-in_err-gather-clause-arms
returns-in_err-gather-clause-arms g c =
    let at = (goal.at.returns-in_err-gather-clause-arms g c).After-gather in
    gathered_arms g.D.Disk _ _ c.args.site (is g at) c.requires.there c.gather.ensures.gathers

-- ---- the site does what is next

module _ (g : Over) (c : After-index_mut g) where
  abbrev mid : BenchValue g.row.D.Denot
  mid = record { cells = c.self-2.inside.cells.items; homes = c.self-2.inside.homes.items }

  gathers : HasGathered c.args.site.0 c.args.self.now mid
  gathers = subst (λ (v : BenchValue g.row.D.Denot). HasGathered c.args.site.0 c.args.self.now v) (sym c.self-2.view_is) c.gather.ensures.gathers

  now_is : IsBench c.args.self.now
  now_is = subst (λ (v : BenchValue g.row.D.Denot). IsBench v) c.self.view_is c.self.invariant.0

  arrives : (from : ℕ) → from < length c.args.self.now.cells → from ≢ c.args.site.0 → HasArrived c.args.self.now.cells mid.cells c.args.site.0 from
  arrives =
      subst (λ (v : BenchValue g.row.D.Denot). (from : ℕ) → from < length c.args.self.now.cells → from ≢ c.args.site.0
      → HasArrived c.args.self.now.cells v.cells c.args.site.0 from) (sym c.self-2.view_is) c.in_ok-gather.ensures.arrives

  lanes : length c.index_mut.result.now.ins ≡ length c.args.self.now.cells
  lanes =
      let a = c.index_mut.result.now in
      lanes_here g.D.Disk _ _ c.args.site now_is c.requires.there gathers arrives c.from-place.result a a c.from-place.ensures c.index_mut.ensures.value

pub pump_arrived-requires-clause-few : goal.pump_arrived-requires-clause-few
pump_arrived-requires-clause-few g c =
    let at = (goal.at.pump_arrived-requires-clause-few g c).After-index_mut in
    let few = (now_is g at).few in
    let long = lanes g at in
    omega (arith, few, long)

pub pump_arrived-requires-clause-site : goal.pump_arrived-requires-clause-site
pump_arrived-requires-clause-site g c =
    let at = (goal.at.pump_arrived-requires-clause-site g c).After-index_mut in
    let a = c.index_mut.result.now in
    c.requires.pump.site ∙ sym (site_here g.D.Disk _ _ c.args.site (now_is g at) c.requires.there (gathers g at) (arrives g at) c.from-place.result a a
    c.from-place.ensures c.index_mut.ensures.value)

pub pump_arrived-requires-clause-senders : goal.pump_arrived-requires-clause-senders
pump_arrived-requires-clause-senders g c =
    let at = (goal.at.pump_arrived-requires-clause-senders g c).After-index_mut in
    c.requires.pump.senders ∙ sym (lanes g at)

pub pump_arrived-requires-clause-taken : goal.pump_arrived-requires-clause-taken
pump_arrived-requires-clause-taken g c =
    let at = (goal.at.pump_arrived-requires-clause-taken g c).After-index_mut in
    let a = c.index_mut.result.now in
    taken_here g.D.Disk _ _ c.args.site (now_is g at) c.requires.there (gathers g at) (arrives g at) c.from-place.result a a
    c.from-place.ensures c.index_mut.ensures.value c.args.pump.now c.requires.pump

pub invariant_of-self : goal.invariant_of-self
invariant_of-self g c =
    let at = (goal.at.invariant_of-self g c).After-index_mut in
    whole_kept g.D.Disk _ _ _ _ _ _ (each_one g.D.Disk _ _ _ _ _
    (one g.D.Disk _ _ c.args.site (now_is g at) c.requires.there (gathers g at) (arrives g at) c.from-place.result c.index_mut.result.now
    c.pump_arrived.new.self c.from-place.ensures c.index_mut.ensures.value) c.pump_arrived.ensures.proceeds.keeps) c.self-2.invariant

pub returns-clause-keeps : goal.returns-clause-keeps
returns-clause-keeps g c =
    let at = (goal.at.returns-clause-keeps g c).After-index_mut in
    now_keeps g.D.Disk _ _ c.args.site (now_is g at) c.requires.there (gathers g at) (arrives g at) c.from-place.result c.index_mut.result.now
    c.pump_arrived.new.self c.from-place.ensures c.index_mut.ensures.value c.pump_arrived.ensures.proceeds

pub returns-clause-drops : goal.returns-clause-drops
returns-clause-drops g c =
    let at = (goal.at.returns-clause-drops g c).After-index_mut in
    now_drops g.D.Disk _ _ c.args.site (now_is g at) c.requires.there (gathers g at) (arrives g at) c.from-place.result c.index_mut.result.now
    c.pump_arrived.new.self c.from-place.ensures c.index_mut.ensures.value c.pump_arrived.ensures.proceeds

pub returns-clause-calls : goal.returns-clause-calls
returns-clause-calls g c =
    let at = (goal.at.returns-clause-calls g c).After-index_mut in
    now_calls g.D.Disk _ _ c.args.site (now_is g at) c.requires.there (gathers g at) (arrives g at) c.from-place.result c.index_mut.result.now
    c.pump_arrived.new.self c.from-place.ensures c.index_mut.ensures.value c.pump_arrived.ensures.proceeds

pub returns-clause-arms : goal.returns-clause-arms
returns-clause-arms g c =
    let at = (goal.at.returns-clause-arms g c).After-index_mut in
    now_arms g.D.Disk _ _ c.args.site (now_is g at) c.requires.there (gathers g at) (arrives g at) c.from-place.result c.index_mut.result.now
    c.pump_arrived.new.self c.from-place.ensures c.index_mut.ensures.value c.pump_arrived.ensures.proceeds

pub returns-clause-kept : goal.returns-clause-kept
returns-clause-kept g c =
    let at = (goal.at.returns-clause-kept g c).After-index_mut in
    on_err_weaker c.pump_arrived.result
    (now_trails g.D.Disk _ _ c.args.site (now_is g at) c.requires.there (gathers g at) (arrives g at) c.from-place.result c.index_mut.result.now
    c.pump_arrived.new.self c.from-place.ensures c.index_mut.ensures.value c.pump_arrived.ensures.proceeds) c.pump_arrived.ensures.kept

pub returns-clause-taken : goal.returns-clause-taken
returns-clause-taken g c =
    let at = (goal.at.returns-clause-taken g c).After-index_mut in
    on_err_weaker c.pump_arrived.result
    (now_taken g.D.Disk _ _ c.args.site (now_is g at) c.requires.there (gathers g at) (arrives g at) c.from-place.result c.index_mut.result.now
    c.pump_arrived.new.self c.from-place.ensures c.index_mut.ensures.value c.pump_arrived.ensures.proceeds c.args.pump.now c.pump_arrived.new.pump
    c.requires.pump) c.pump_arrived.ensures.taken

pub returns-clause-pump : goal.returns-clause-pump
returns-clause-pump g c =
    let at = (goal.at.returns-clause-pump g c).After-index_mut in
    now_pump g.D.Disk _ _ c.args.site (now_is g at) c.requires.there (gathers g at) (arrives g at) c.from-place.result c.index_mut.result.now
    c.pump_arrived.new.self c.from-place.ensures c.index_mut.ensures.value c.pump_arrived.ensures.proceeds c.args.pump.now c.pump_arrived.new.pump
    c.requires.pump c.pump_arrived.ensures.pump

pub returns-clause-pumps : goal.returns-clause-pumps
returns-clause-pumps g c = λ cell there.
    let points = goal.at.returns-clause-pumps g c in
    let at = points.After-index_mut in
    let place = has_place g.D.Disk c.args.self.now.cells c.args.site c.index.result.now (here g points.After-is_spent)
    (λ spent. let e = c.is_spent.ensures.1 spent in let f = c.if-is_spent.false in absurd cc) in
    let same = one_there c.args.self.now.cells c.args.site.0 c.index-2.result.now cell (up_there g points.After-is_up) there in
    let up : is_told g.D.Disk cell.node.disk ≡ true → (standing_of cell.node).up ≡ true =
    subst (λ (b : CellValue g.row.D.Denot). is_told g.D.Disk b.node.disk ≡ true → (standing_of b.node).up ≡ true) same
    (λ told. let e = c.is_up.ensures told in let f = c.if-not-is_up.false in cc) in
    IfOk-weaker c.pump_arrived.result _ _
    (λ z does. now_pumps g.D.Disk _ _ c.args.site (now_is g at) c.requires.there (gathers g at) (arrives g at) c.from-place.result
    c.index_mut.result.now c.pump_arrived.new.self c.from-place.ensures c.index_mut.ensures.value c.pump_arrived.ensures.proceeds c.args.pump.now
    c.pump_arrived.new.pump c.requires.pump z cell there place up does) c.pump_arrived.ensures.pumps
