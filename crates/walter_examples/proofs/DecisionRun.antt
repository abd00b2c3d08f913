-- The run of two sites with a decision in flight is right and linked, and spells its history.
use Rattle.std.proofs.Common.{◌≡◌, ℕ, List, [], reverse, take, refl, sym, subst, arith}
use Rattle.walter_base.specs.declared.catalog.Catalog.{Catalog}
use Rattle.walter_base.specs.declared.message.Record.TheVariants.{Own}
use Rattle.walter_base.specs.declared.format.Format.TheVariants.{First}
use Rattle.walter_rules.specs.Layouts.{one_area}
use Rattle.walter_rules.specs.Merges.{merge}
use Rattle.walter_rules.specs.Trails.{all_out, ruled, met_fault, IsRightEntry}
use Rattle.walter_runs.specs.Runs.{AreRightTrails}
use Rattle.walter_refinement.specs.Spelled.{psi_of}
use Rattle.walter_examples.specs.Entries.{site, object}
use Rattle.walter_examples.specs.DecisionInFlight.{HoldsDecision, slow_tx, failed_decision, kept_decision, asked_trail, coordinator_trail, decision_trails, decision_history}
use Rattle.walter_examples.proofs.WrittenTrails.{◌⨾◌, among, same_catalog, by_rule, short_enough, small_enough, FollowRightly, FollowLinked, link, right_trail, right_trails}

-- the history comes of computing
pub decision_told : (catalog : Catalog) (value : List ℕ)
    → psi_of catalog (merge (decision_trails value)) ≡ decision_history value
decision_told catalog value = refl

module _ (catalog : Catalog) (capacity : ℕ) (value : List ℕ)
    (holds : HoldsDecision (among 2 catalog) capacity value) where
  -- each entry of site 0 comes to what the rules say
  asked_right : FollowRightly (among 2 catalog) (one_area capacity First) (site 0) [] (asked_trail value)
  asked_right =
      let room = holds.place in
      by_rule refl refl refl (omega (arith, room))
      ⨾ by_rule refl (omega arith) (simp holds.container_one) (omega (arith, room))
      ⨾ by_rule refl (omega arith) (simp holds.container_one) (omega (arith, room))
      ⨾ by_rule refl (omega arith) refl tt
      ⨾ by_rule refl refl refl (omega (arith, room))
      ⨾ tt

  -- at site 1 the record of the decision meets a fault of the disk
  fails : IsRightEntry (among 2 catalog) (one_area capacity First) (site 1)
      (reverse (take 4 (coordinator_trail value))) (failed_decision value)
  fails =
      let room = holds.place in
      record {
        stamp = omega arith;
        kept = tt;
        comes = met_fault (Own 1 (slow_tx value)) (simp holds.container_one) (omega (arith, room))
            (record { outcome_is = refl; wrote = refl; flight_is = refl; sends = refl; dropped = refl });
      }

  -- the restart finds it
  keeps : IsRightEntry (among 2 catalog) (one_area capacity First) (site 1)
      (reverse (take 5 (coordinator_trail value))) (kept_decision value)
  keeps =
      let room = holds.place in
      record {
        stamp = refl;
        kept = record { restart = refl; down = refl; in_flight = refl };
        comes = ruled (omega (arith, room)) (record { outcome = refl; wrote = refl; flight = refl; sends = all_out _ });
      }

  -- and each other entry comes to what the rules say
  coordinator_right : FollowRightly (among 2 catalog) (one_area capacity First) (site 1) [] (coordinator_trail value)
  coordinator_right =
      let room = holds.place in
      let short = short_enough value holds.short in
      let small = small_enough (object 1 5) value holds.short in
      by_rule refl refl refl (omega (arith, room))
      ⨾ by_rule refl refl refl tt
      ⨾ by_rule refl refl (simp (holds.container_one, short, small)) tt
      ⨾ by_rule refl refl (simp holds.container_one) (omega (arith, room))
      ⨾ fails
      ⨾ keeps
      ⨾ by_rule refl refl (simp holds.container_one) tt
      ⨾ by_rule refl refl (simp holds.container_one) tt
      ⨾ by_rule refl (omega arith) (simp holds.container_one) (omega (arith, room))
      ⨾ tt

-- each packet that is delivered was put out before
asked_links : (value : List ℕ) → FollowLinked (decision_trails value) (site 0) [] (asked_trail value)
asked_links value =
    link 0 4 refl refl (omega arith) refl
    ⨾ link 1 9 refl refl (omega arith) refl
    ⨾ link 2 11 refl refl (omega arith) refl
    ⨾ tt

coordinator_links : (value : List ℕ) → FollowLinked (decision_trails value) (site 1) [] (coordinator_trail value)
coordinator_links value = link 0 5 refl refl (omega arith) refl ⨾ link 1 10 refl refl (omega arith) refl ⨾ tt

-- so the trails are right
pub decision_right : (catalog : Catalog) (capacity : ℕ) (value : List ℕ)
    → HoldsDecision catalog capacity value → AreRightTrails catalog (λ k. one_area capacity First) (decision_trails value)
decision_right catalog capacity value holds =
    let same = same_catalog 2 catalog holds.sites holds.tolerated in
    let has = subst (λ c. HoldsDecision c capacity value) (sym same) holds in
    subst (λ c. AreRightTrails c (λ k. one_area capacity First) (decision_trails value)) same
    (right_trails (among 2 catalog) (one_area capacity First) (decision_trails value) refl
    (right_trail refl (asked_right catalog capacity value has)
    ⨾ right_trail refl (coordinator_right catalog capacity value has)
    ⨾ tt)
    (asked_links value ⨾ coordinator_links value ⨾ tt))
