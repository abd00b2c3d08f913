-- The pumps of all sites: before anything has come, and as they go on.
use Rattle.std.proofs.Common.{◌≡◌, ℕ, zero, suc, ◌<◌, List, [], ◌∷◌, length, map, get_or, set, slice_get, Some, refl, ap, sym, ◌∙◌, subst, arith, inl, inr}
use Rattle.std.proofs.lemmas.Bool.{cases_eq}
use Rattle.std.proofs.lemmas.List.{length-set}
use Rattle.std.proofs.lemmas.List.FromFn.{get_or-map-range_with_len, length-map-range_with_len}
use Rattle.std.proofs.lemmas.Option.{slice_get-get_or, slice_get_within}
use Rattle.std.specs.List.{range_with_len}
use Rattle.walter_base.specs.declared.names.SiteId.{SiteId}
use Rattle.walter_disk.specs.declared.disk.Disk.{Ghosts}
use Rattle.walter_link.specs.Pumps.{PumpValue, count_in, new_pump, new_sender}
use Rattle.walter_link.specs.declared.chooser.Link.{Link}
use Rattle.walter_rules.specs.Knowledge.{site_at}
use Rattle.walter_scenario.specs.declared.scenario.Scenario.{Scenario}
use Rattle.walter_cluster.specs.Benches.{BenchValue, Keeps, IsOf}
use Rattle.walter_cluster.specs.Pumps.{ArePumps, IsPumpAt, new_pumps}
use Rattle.walter_cluster.proofs.Changes.{one_there, set_here, set_there}
use Rattle.walter_cluster.proofs.Keeping.{pump_kept}

-- each pump goes on
pub pumps_kept : {D : Type 0} (g : Ghosts D) (old new : BenchValue D) → Keeps g old new → (pumps : List PumpValue)
    → ArePumps old.cells pumps → ArePumps new.cells pumps
pumps_kept g old new keeps pumps are = record {
  long = are.long ∙ sym keeps.cells.long;
  each = λ i pump at. pump_kept g old.cells new.cells keeps.cells (site_at i) pump (are.each i pump at);
}

-- a site's pump, and that of a site that was pumped
module _ {D : Type 0} (g : Ghosts D) (old new : BenchValue D) (keeps : Keeps g old new) (pumps : List PumpValue) (are : ArePumps old.cells pumps)
    (i : SiteId) (within : i.0 < length old.cells) (k : ℕ) (is : k ≡ i.0) where
  pub pump_there : (d : PumpValue) → slice_get pumps i.0 ≡ Some (get_or pumps k d)
  pump_there d =
      let long = are.long in
      slice_get-get_or pumps i.0 d (omega (arith, within, long)) ∙ ap (λ n. Some (get_or pumps n d)) (sym is)

  pub pump_at : (d : PumpValue) → IsPumpAt old.cells i (get_or pumps k d)
  pump_at d = are.each i.0 (get_or pumps k d) (pump_there d)

  pub pumps_after : (after : PumpValue) → IsPumpAt new.cells i after → ArePumps new.cells (set pumps k after)
  pumps_after after pumped = record {
    long = length-set pumps k after ∙ (are.long ∙ sym keeps.cells.long);
    each = λ j pump at. elim (cases_eq j k) [
      | inl same ↦
          let long = are.long in
          let now = set_here pumps k after (omega (arith, within, long, is)) in
          let one = one_there (set pumps k after) k after pump now (ap (slice_get (set pumps k after)) (sym same) ∙ at) in
          subst (λ (p : PumpValue). IsPumpAt new.cells (site_at j) p) one
          (subst (λ (n : ℕ). IsPumpAt new.cells (site_at n) after) (sym (same ∙ is)) pumped)
      | inr apart ↦
          (pumps_kept g old new keeps pumps are).each j pump (sym (set_there pumps k j after apart) ∙ at)
    ];
  }

-- ---- before the first step

maps_on : {X Y Z : Type 0} (f : Y → Z) (h : X → Y) (xs : List X) → map f (map h xs) ≡ map (λ x. f (h x)) xs
maps_on f h [] = refl
maps_on f h (x ∷ xs) = ap (λ rest. f (h x) ∷ rest) (maps_on f h xs)

none_taken : (link : Link) (site : SiteId) (xs : List ℕ) (from : ℕ) → count_in (slice_get (map (new_sender link site) xs) from) ≡ 0
none_taken link site [] from = refl
none_taken link site (x ∷ xs) zero = refl
none_taken link site (x ∷ xs) (suc from) = none_taken link site xs from

abbrev pub pump_of : Scenario → ℕ → PumpValue
pump_of t k = new_pump t.link (site_at k) t.catalog.sites t.ticks

pub new_pumps_are : (t : Scenario) → new_pumps t ≡ map (pump_of t) (range_with_len 0 t.catalog.sites)
new_pumps_are t = maps_on (λ site. new_pump t.link site t.catalog.sites t.ticks) site_at (range_with_len 0 t.catalog.sites)

-- the one at each place
pub new_pump_at : (t : Scenario) (i : ℕ) (pump : PumpValue) → slice_get (new_pumps t) i ≡ Some pump
    → (i < t.catalog.sites) × (pump ≡ pump_of t i)
new_pump_at t i pump at =
    let n = t.catalog.sites in
    let pumps = map (pump_of t) (range_with_len 0 n) in
    let here : slice_get pumps i ≡ Some pump = ap (λ ps. slice_get ps i) (sym (new_pumps_are t)) ∙ at in
    let within = slice_get_within pumps i pump here in
    let long = length-map-range_with_len (pump_of t) 0 n in
    let below : i < n = omega (arith, within, long) in
    let is : Some pump ≡ Some (pump_of t i) =
    sym here ∙ (slice_get-get_or pumps i pump within
    ∙ ap (λ p. Some p) (get_or-map-range_with_len (pump_of t) 0 n i i pump below (omega arith))) in
    (below, cc)

-- each pump is its site's
pub pumps_first : {D : Type 0} (t : Scenario) (bench : BenchValue D) → IsOf t bench → ArePumps bench.cells (new_pumps t)
pumps_first t bench of = record {
  long = ap length (new_pumps_are t) ∙ (length-map-range_with_len (pump_of t) 0 t.catalog.sites ∙ sym of.sites);
  each = λ i pump at.
      let n = t.catalog.sites in
      subst (λ (p : PumpValue). IsPumpAt bench.cells (site_at i) p) (sym (new_pump_at t i pump at).1) (record {
        site = refl;
        senders = length-map-range_with_len (new_sender t.link (site_at i)) 0 n ∙ sym of.sites;
        taken = λ from. let none = none_taken t.link (site_at i) (range_with_len 0 n) from in omega (arith, none);
      });
}
