-- The sites of a new bench can work.
use Rattle.std.proofs.Common.{◌≡◌, ◌<◌, ℕ, zero, suc, true, List, [], ◌∷◌, length, take, option_map, slice_get, Some, None, ap, sym, ◌∙◌, subst, arith}
use Rattle.std.specs.Prelude.{replicate}
use Rattle.std.proofs.lemmas.List.{length-take}
use Rattle.std.proofs.lemmas.Option.{slice_get-map}
use Rattle.walter_cell.specs.Cells.{CellValue}
use Rattle.walter_cell.specs.Nodes.{is_told}
use Rattle.walter_cluster.specs.Benches.{BenchValue, IsOf, trails_of}
use Rattle.walter_cluster.specs.Pumps.{new_pumps}
use Rattle.walter_cluster.specs.Shared.{CanWork}
use Rattle.walter_cluster.proofs.Pumps.{new_pump_at, pumps_first}
use Rattle.walter_disk.specs.declared.disk.Disk.{Ghosts}
use Rattle.walter_link.specs.Pumps.{PumpValue}
use Rattle.walter_rules.specs.declared.entry.Entry.{Entry}
use Rattle.walter_rules.specs.Knowledge.{site_at}
use Rattle.walter_rules.specs.Trails.{opening}
use Rattle.walter_scenario.specs.declared.scenario.Scenario.{Scenario}
use Rattle.walter_work.specs.Working.{IsWorking}
use Rattle.walter_work.proofs.Working.{first_works}

-- an element of a list of equal ones
one_of_all : {X : Type 0} (n : ℕ) (x y : X) (k : ℕ) → slice_get (replicate n x) k ≡ Some y → y ≡ x
one_of_all zero x y k at = let e : None ≡ Some y = at in absurd cc
one_of_all (suc n) x y zero at = let e : Some x ≡ Some y = at in cc
one_of_all (suc n) x y (suc k) at = one_of_all n x y k at

pub can_first : {D : Type 0} (g : Ghosts D) (t : Scenario) (bench : BenchValue D) → IsOf t bench
    → trails_of bench.cells ≡ replicate t.catalog.sites (opening ∷ []) → CanWork g t bench (new_pumps t)
can_first {D = D} g t bench of openings = record {
  of = of;
  are = pumps_first t bench of;
  working = λ i c p at pumped.
      let trails = ap (λ (ts : List (List Entry)). slice_get ts i) (sym openings) in
      let here = slice_get-map (λ (c : CellValue D). c.node.trail) bench.cells i ∙ ap (option_map (λ (c : CellValue D). c.node.trail)) at in
      let trail : c.node.trail ≡ opening ∷ [] = one_of_all t.catalog.sites (opening ∷ []) c.node.trail i (trails ∙ here) in
      subst (λ (es : List Entry). IsWorking (is_told g c.node.disk ≡ true) t (site_at i) es p) (sym trail)
      (subst (λ (q : PumpValue). IsWorking (is_told g c.node.disk ≡ true) t (site_at i) (opening ∷ []) q) (sym (new_pump_at t i p pumped).1)
      (first_works (is_told g c.node.disk ≡ true) t (site_at i)));
}

-- a place in front of so many is one of these
pub take_short : {X : Type 0} (n : ℕ) (xs : List X) (i : ℕ) → i < length (take n xs) → i < n
take_short n xs i below = let front = length-take n xs in omega (arith, below, front)
