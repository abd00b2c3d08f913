use Rattle.std.proofs.Common.{◌≡◌, ◌≢◌, ◌<◌, ℕ, length, map, refl, ap, sym, ◌∙◌, subst, Some, arith}
use Rattle.std.specs.Prelude.{All}
use Rattle.std.proofs.lemmas.Iterator.Adapters.{YieldsList-from_vec}
use Rattle.std.proofs.lemmas.Iterator.Consumers.{YieldsList-turn, YieldsList-end}
use Rattle.std.proofs.lemmas.List.{length-map, map-id}
use Rattle.std.proofs.lemmas.List.Elements.{All-nil, All-push}
use Rattle.walter_cell.specs.Cells.{CellValue, IsCell}
use Rattle.walter_cell.specs.Nodes.{IsSound}
use Rattle.walter_rules.specs.Merges.{AreLinked}
use Rattle.walter_cluster.specs.Benches.{BenchValue, AtEach, IsBench, trails_of, disks_of}
use Rattle.walter_cluster.specs.Builds.{GivesBack}
use Rattle.walter_cluster.specs.Meetings.{HaveLanes, Begins}
use Rattle.walter_cluster.proofs.Closings.{taken_whole, maps_pushed, map_pushed, sound_each, cells_linked}
use Rattle.walter_cluster.proofs.Keeping.{lanes_of}
use Rattle.walter_cluster.proofs.bench.Bench.close.Goals as goal

pub compare_all-requires-clause-few : goal.compare_all-requires-clause-few
compare_all-requires-clause-few g c =
    let long = ap length c.deref_mut.ensures.value in
    let few = c.self.invariant.0.few in
    omega (arith, long, few)

pub compare_all-requires-clause-lanes : goal.compare_all-requires-clause-lanes
compare_all-requires-clause-lanes g c =
    let old : BenchValue g.row.D.Denot = record { cells = c.self.inside.cells.items; homes = c.self.inside.homes.items } in
    subst (λ cells. HaveLanes cells) (sym c.deref_mut.ensures.value) (lanes_of g.D.Disk old c.self.invariant.0)

pub loop-cell-init : goal.loop-cell-init
loop-cell-init g c = record {
  trails = c.self.invariant.1.none;
  disks = ap (λ ds. map (λ d. Some d) ds) c.self.invariant.2.none;
  lines = c.self.invariant.3.none;
  sound = All-nil (λ (c : CellValue g.row.D.Denot). IsSound g.D.Disk c.node × IsCell c);
  for_trails = refl;
  for_disks = refl;
  for_remains = refl;
}

pub push_reserved-requires : goal.push_reserved-requires
push_reserved-requires g c =
    let old : BenchValue g.row.D.Denot = record { cells = c.self.inside.cells.items; homes = c.self.inside.homes.items } in
    let all = c.compare_all.new.cells in
    let same : all ≡ old.cells = c.compare_all.ensures.same ∙ c.deref_mut.ensures.value in
    let count : length all ≡ c.self.inside.cells.len = (let l = ap length same in let k = c.self.inside.cells.ok.0 in omega (arith, l, k)) in
    let gives = c.into_iter-cell-iterator.ensures.into_iter_gives in
    let whole = taken_whole c.self.inside.cells.len all _ _ gives.0 count in
    let yields = YieldsList-from_vec all whole (gives.1 ∙ sym count) in
    let turn = YieldsList-turn yields c.loop-cell.yielded c.loop-cell.cell-iterator c.loop-cell.yielded_by c.next.result c.next.new.self c.in-Some.cell c.in-Some.is c.next.ensures.steps in
    let is = c.loop-cell.invariant in
    let long = ap length same in
    omega (arith, turn.0, long, ap length is.trails, length-map c.loop-cell.yielded (λ (c : CellValue g.row.D.Denot). c.node.trail), is.for_trails, c.self.invariant.1.room, c.loop-cell.closed.trails.ok.0)

pub push_reserved-requires-in-loop-cell : goal.push_reserved-requires-in-loop-cell
push_reserved-requires-in-loop-cell g c =
    let old : BenchValue g.row.D.Denot = record { cells = c.self.inside.cells.items; homes = c.self.inside.homes.items } in
    let all = c.compare_all.new.cells in
    let same : all ≡ old.cells = c.compare_all.ensures.same ∙ c.deref_mut.ensures.value in
    let count : length all ≡ c.self.inside.cells.len = (let l = ap length same in let k = c.self.inside.cells.ok.0 in omega (arith, l, k)) in
    let gives = c.into_iter-cell-iterator.ensures.into_iter_gives in
    let whole = taken_whole c.self.inside.cells.len all _ _ gives.0 count in
    let yields = YieldsList-from_vec all whole (gives.1 ∙ sym count) in
    let turn = YieldsList-turn yields c.loop-cell.yielded c.loop-cell.cell-iterator c.loop-cell.yielded_by c.next.result c.next.new.self c.in-Some.cell c.in-Some.is c.next.ensures.steps in
    let is = c.loop-cell.invariant in
    let long = ap length same in
    omega (arith, turn.0, long, ap length is.disks, length-map c.loop-cell.closed.disks.items (λ d. Some d), length-map c.loop-cell.yielded (λ (c : CellValue g.row.D.Denot). c.node.disk), is.for_disks, c.self.invariant.2.room, c.loop-cell.closed.disks.ok.0)

pub push_reserved-requires-in-loop-cell-2 : goal.push_reserved-requires-in-loop-cell-2
push_reserved-requires-in-loop-cell-2 g c =
    let old : BenchValue g.row.D.Denot = record { cells = c.self.inside.cells.items; homes = c.self.inside.homes.items } in
    let all = c.compare_all.new.cells in
    let same : all ≡ old.cells = c.compare_all.ensures.same ∙ c.deref_mut.ensures.value in
    let count : length all ≡ c.self.inside.cells.len = (let l = ap length same in let k = c.self.inside.cells.ok.0 in omega (arith, l, k)) in
    let gives = c.into_iter-cell-iterator.ensures.into_iter_gives in
    let whole = taken_whole c.self.inside.cells.len all _ _ gives.0 count in
    let yields = YieldsList-from_vec all whole (gives.1 ∙ sym count) in
    let turn = YieldsList-turn yields c.loop-cell.yielded c.loop-cell.cell-iterator c.loop-cell.yielded_by c.next.result c.next.new.self c.in-Some.cell c.in-Some.is c.next.ensures.steps in
    let is = c.loop-cell.invariant in
    let long = ap length same in
    omega (arith, turn.0, long, ap length is.lines, length-map c.loop-cell.yielded (λ (c : CellValue g.row.D.Denot). c.lines), is.for_remains, c.self.invariant.3.room, c.loop-cell.closed.remains.ok.0)

pub loop-cell-preserved : goal.loop-cell-preserved
loop-cell-preserved g c =
    let is = c.loop-cell.invariant in
    let parts = c.into_parts-disk.ensures in
    let first = c.push_reserved.ensures in
    let second = c.push_reserved-in-loop-cell.ensures in
    let third = c.push_reserved-in-loop-cell-2.ensures in record {
      trails = map_pushed (λ (c : CellValue g.row.D.Denot). c.node.trail) c.loop-cell.closed.trails.items c.push_reserved.new.self.items c.into_parts-disk.result.1 c.loop-cell.yielded c.in-Some.cell first.items is.trails parts.trail;
      disks = maps_pushed (λ d. Some d) (λ (c : CellValue g.row.D.Denot). c.node.disk) c.loop-cell.closed.disks.items c.push_reserved-in-loop-cell.new.self.items c.into_parts-disk.result.0 c.loop-cell.yielded c.in-Some.cell second.items is.disks parts.disk;
      lines = map_pushed (λ (c : CellValue g.row.D.Denot). c.lines) c.loop-cell.closed.remains.items c.push_reserved-in-loop-cell-2.new.self.items c.into_parts-disk.result.2 c.loop-cell.yielded c.in-Some.cell third.items is.lines parts.lines;
      sound = All-push (λ (c : CellValue g.row.D.Denot). IsSound g.D.Disk c.node × IsCell c) c.loop-cell.yielded c.in-Some.cell is.sound (parts.sound, parts.cell);
      for_trails = first.capacity ∙ is.for_trails;
      for_disks = second.capacity ∙ is.for_disks;
      for_remains = third.capacity ∙ is.for_remains;
    }

pub returns-clause-gives : goal.returns-clause-gives
returns-clause-gives g c =
    let old : BenchValue g.row.D.Denot = record { cells = c.self.inside.cells.items; homes = c.self.inside.homes.items } in
    let all = c.compare_all.new.cells in
    let same : all ≡ old.cells = c.compare_all.ensures.same ∙ c.deref_mut.ensures.value in
    let count : length all ≡ c.self.inside.cells.len = (let l = ap length same in let k = c.self.inside.cells.ok.0 in omega (arith, l, k)) in
    let gives = c.into_iter-cell-iterator.ensures.into_iter_gives in
    let whole = taken_whole c.self.inside.cells.len all _ _ gives.0 count in
    let yields = YieldsList-from_vec all whole (gives.1 ∙ sym count) in
    let end = YieldsList-end yields c.loop-cell.yielded c.loop-cell.cell-iterator c.loop-cell.yielded_by c.next.result c.next.new.self c.in-None.is c.next.ensures.steps in
    let every : c.loop-cell.yielded ≡ old.cells = sym (map-id c.loop-cell.yielded) ∙ (end.0 ∙ same) in
    let is = c.loop-cell.invariant in
    let gives : GivesBack old.cells c.loop-cell.closed = record {
      trails = is.trails ∙ ap (λ cs. trails_of cs) every;
      disks = is.disks ∙ ap (λ cs. disks_of cs) every;
      lines = is.lines ∙ ap (λ cs. map (λ (c : CellValue g.row.D.Denot). c.lines) cs) every;
    } in
    subst (λ (v : BenchValue g.row.D.Denot). GivesBack v.cells c.loop-cell.closed) c.self.view_is gives

pub returns-clause-sound : goal.returns-clause-sound
returns-clause-sound g c =
    let old : BenchValue g.row.D.Denot = record { cells = c.self.inside.cells.items; homes = c.self.inside.homes.items } in
    let all = c.compare_all.new.cells in
    let same : all ≡ old.cells = c.compare_all.ensures.same ∙ c.deref_mut.ensures.value in
    let count : length all ≡ c.self.inside.cells.len = (let l = ap length same in let k = c.self.inside.cells.ok.0 in omega (arith, l, k)) in
    let gives = c.into_iter-cell-iterator.ensures.into_iter_gives in
    let whole = taken_whole c.self.inside.cells.len all _ _ gives.0 count in
    let yields = YieldsList-from_vec all whole (gives.1 ∙ sym count) in
    let end = YieldsList-end yields c.loop-cell.yielded c.loop-cell.cell-iterator c.loop-cell.yielded_by c.next.result c.next.new.self c.in-None.is c.next.ensures.steps in
    let every : c.loop-cell.yielded ≡ old.cells = sym (map-id c.loop-cell.yielded) ∙ (end.0 ∙ same) in
    let is = c.loop-cell.invariant in
    subst (λ (v : BenchValue g.row.D.Denot). AtEach v.cells (λ i c. IsSound g.D.Disk c.node × IsCell c)) c.self.view_is
    (sound_each g.D.Disk old.cells (subst (λ cs. All (λ (c : CellValue g.row.D.Denot). IsSound g.D.Disk c.node × IsCell c) cs) every is.sound))

pub returns-clause-linked : goal.returns-clause-linked
returns-clause-linked g c =
    let old : BenchValue g.row.D.Denot = record { cells = c.self.inside.cells.items; homes = c.self.inside.homes.items } in
    let all = c.compare_all.new.cells in
    let same : all ≡ old.cells = c.compare_all.ensures.same ∙ c.deref_mut.ensures.value in
    let count : length all ≡ c.self.inside.cells.len = (let l = ap length same in let k = c.self.inside.cells.ok.0 in omega (arith, l, k)) in
    let gives = c.into_iter-cell-iterator.ensures.into_iter_gives in
    let whole = taken_whole c.self.inside.cells.len all _ _ gives.0 count in
    let yields = YieldsList-from_vec all whole (gives.1 ∙ sym count) in
    let end = YieldsList-end yields c.loop-cell.yielded c.loop-cell.cell-iterator c.loop-cell.yielded_by c.next.result c.next.new.self c.in-None.is c.next.ensures.steps in
    let every : c.loop-cell.yielded ≡ old.cells = sym (map-id c.loop-cell.yielded) ∙ (end.0 ∙ same) in
    let is = c.loop-cell.invariant in
    let sound = sound_each g.D.Disk old.cells (subst (λ cs. All (λ (c : CellValue g.row.D.Denot). IsSound g.D.Disk c.node × IsCell c) cs) every is.sound) in
    let begins : (to from : ℕ) → to < length old.cells → from < length old.cells → to ≢ from → Begins old.cells to from =
    subst (λ cs. (to from : ℕ) → to < length cs → from < length cs → to ≢ from → Begins cs to from) c.deref_mut.ensures.value
    c.compare_all.ensures.begins in
    subst (λ ts. AreLinked ts) (sym (is.trails ∙ ap (λ cs. trails_of cs) every))
    (cells_linked g.D.Disk old c.self.invariant.0 sound begins)

pub returns-clause-bench : goal.returns-clause-bench
returns-clause-bench g c = subst (λ (v : BenchValue g.row.D.Denot). IsBench v) c.self.view_is c.self.invariant.0
