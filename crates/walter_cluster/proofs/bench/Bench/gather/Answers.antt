use Rattle.std.proofs.Common.{◌≡◌, ◌<◌, ◌++◌, ◌≢◌, ◌⊎◌, ℕ, List, length, take, drop, refl, ap, sym, subst, arith}
use Rattle.std.specs.Prelude.{OnOk}
use Rattle.std.proofs.lemmas.List.{take_at}
use Rattle.std.proofs.lemmas.Result.{on_ok_weaker}
use Rattle.walter_cell.specs.Cells.{CellValue}
use Rattle.walter_cluster.specs.Benches.{BenchValue}
use Rattle.walter_cluster.specs.Meetings.{HasGathered, HaveStayed, HaveAllMet, HaveLanes, HasArrived, IsAsBefore}
use Rattle.walter_cluster.proofs.Meetings.{each_stays}
use Rattle.walter_cluster.proofs.Keeping.{lanes_of, whole_kept}
use Rattle.walter_cluster.proofs.bench.Bench.gather.Given.{Over}
use Rattle.walter_cluster.proofs.bench.Bench.gather.Goals.{After-meet_all}
use Rattle.walter_cluster.proofs.bench.Bench.gather.Goals as goal

pub meet_all-requires-clause-lanes : goal.meet_all-requires-clause-lanes
meet_all-requires-clause-lanes g c =
    let old : BenchValue g.row.D.Denot = record { cells = c.self.inside.cells.items; homes = c.self.inside.homes.items } in
    subst (λ cells. HaveLanes cells) (sym c.deref_mut.ensures.value) (lanes_of g.D.Disk old c.self.invariant.0)

module _ (g : Over) (c : After-meet_all g) where
  abbrev start : BenchValue g.row.D.Denot
  start = record { cells = c.self.inside.cells.items; homes = c.self.inside.homes.items }

  abbrev met : List (CellValue g.row.D.Denot)
  met = c.meet_all.new.cells

  -- the cells behind the meetings, in the bench again
  abbrev mid : List (CellValue g.row.D.Denot)
  mid = take c.self.inside.cells.len (met ++ drop (length met) start.cells)

  lent : c.deref_mut.result.now ≡ start.cells
  lent = c.deref_mut.ensures.value

  is_mid : mid ≡ met
  is_mid =
      take_at met (drop (length met) start.cells) c.self.inside.cells.len
      (let l = c.meet_all.ensures.stays.long in let e = ap length lent in let k = c.self.inside.cells.ok.0 in omega (arith, l, e, k))

  gathers : HasGathered c.args.to.0 start (record { cells = mid; homes = start.homes })
  gathers = record {
    stays = subst (λ l. HaveStayed start.cells l) (sym is_mid) (subst (λ l. HaveStayed l met) lent c.meet_all.ensures.stays);
    homes = refl;
    elsewhere = subst (λ l. (i j : ℕ) → (i ≢ c.args.to.0) ⊎ (j ≡ c.args.to.0) → IsAsBefore l mid i j) lent
        (subst (λ l. (i j : ℕ) → (i ≢ c.args.to.0) ⊎ (j ≡ c.args.to.0) → IsAsBefore c.deref_mut.result.now l i j) (sym is_mid)
        (λ i j. subst (λ n. (i ≢ n) ⊎ (j ≡ n) → IsAsBefore c.deref_mut.result.now met i j) c.from.ensures (c.meet_all.ensures.elsewhere i j)));
    met = subst (λ l. HaveAllMet start.cells → HaveAllMet l) (sym is_mid)
        (subst (λ l. HaveAllMet l → HaveAllMet met) lent c.meet_all.ensures.met);
  }

  arrives : ((j : ℕ) → j < length c.deref_mut.result.now → j ≢ c.from.result → HasArrived c.deref_mut.result.now met c.from.result j)
      → (j : ℕ) → j < length start.cells → j ≢ c.args.to.0 → HasArrived start.cells mid c.args.to.0 j
  arrives all =
      subst (λ l. (j : ℕ) → j < length l → j ≢ c.args.to.0 → HasArrived l mid c.args.to.0 j) lent
      (subst (λ l. (j : ℕ) → j < length c.deref_mut.result.now → j ≢ c.args.to.0 → HasArrived c.deref_mut.result.now l c.args.to.0 j) (sym is_mid)
      (λ j. subst (λ n. j < length c.deref_mut.result.now → j ≢ n → HasArrived c.deref_mut.result.now met n j) c.from.ensures (all j)))

pub invariant_of-self : goal.invariant_of-self
invariant_of-self g c =
    let at = (goal.at.invariant_of-self g c).After-meet_all in
    whole_kept g.D.Disk _ _ _ _ _ _ (each_stays _ _ (gathers g at).stays g.D.Disk) c.self.invariant

pub returns-clause-gathers : goal.returns-clause-gathers
returns-clause-gathers g c =
    let at = (goal.at.returns-clause-gathers g c).After-meet_all in
    subst (λ (v : BenchValue g.row.D.Denot). HasGathered c.args.to.0 v (record { cells = mid g at; homes = c.self.inside.homes.items })) c.self.view_is
    (gathers g at)

pub returns-clause-arrives : goal.returns-clause-arrives
returns-clause-arrives g c =
    let at = (goal.at.returns-clause-arrives g c).After-meet_all in
    subst (λ (v : BenchValue g.row.D.Denot). OnOk c.meet_all.result ((j : ℕ) → j < length v.cells → j ≢ c.args.to.0
    → HasArrived v.cells (mid g at) c.args.to.0 j)) c.self.view_is
    (on_ok_weaker c.meet_all.result (arrives g at) c.meet_all.ensures.arrives)
