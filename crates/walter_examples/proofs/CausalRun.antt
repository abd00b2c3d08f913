-- The run of three sites is right and linked, and spells its history.
use Rattle.std.proofs.Common.{◌≡◌, ℕ, List, [], refl, sym, subst, arith}
use Rattle.walter_base.specs.declared.catalog.Catalog.{Catalog}
use Rattle.walter_base.specs.declared.format.Format.TheVariants.{First}
use Rattle.walter_rules.specs.Layouts.{one_area}
use Rattle.walter_rules.specs.Merges.{merge}
use Rattle.walter_runs.specs.Runs.{AreRightTrails}
use Rattle.walter_refinement.specs.Spelled.{psi_of}
use Rattle.walter_examples.specs.Entries.{site, object}
use Rattle.walter_examples.specs.CausalOrder.{HoldsCausalOrder, trail_0, trail_1, trail_2, causal_trails, causal_history}
use Rattle.walter_examples.proofs.WrittenTrails.{◌⨾◌, among, same_catalog, by_rule, short_enough, small_enough, FollowRightly, FollowLinked, link, right_trail, right_trails}

-- the history comes of computing
pub causal_told : (catalog : Catalog) (cause effect : List ℕ)
    → psi_of catalog (merge (causal_trails cause effect)) ≡ causal_history cause effect
causal_told catalog cause effect = refl

module _ (catalog : Catalog) (capacity : ℕ) (cause effect : List ℕ)
    (holds : HoldsCausalOrder (among 3 catalog) capacity cause effect) where
  -- each entry of the three trails comes to what the rules say
  right_0 : FollowRightly (among 3 catalog) (one_area capacity First) (site 0) [] (trail_0 cause)
  right_0 =
      let room = holds.place in
      let short = short_enough cause holds.short_cause in
      let small = small_enough (object 1 1) cause holds.short_cause in
      by_rule refl refl refl (omega (arith, room))
      ⨾ by_rule refl refl refl tt
      ⨾ by_rule refl refl (simp (holds.container_one, short, small)) tt
      ⨾ by_rule refl refl (simp holds.container_one) (omega (arith, room))
      ⨾ tt

  right_1 : FollowRightly (among 3 catalog) (one_area capacity First) (site 1) [] (trail_1 cause effect)
  right_1 =
      let room = holds.place in
      let short = short_enough effect holds.short_effect in
      let small = small_enough (object 2 1) effect holds.short_effect in
      by_rule refl refl refl (omega (arith, room))
      ⨾ by_rule refl (omega arith) (simp holds.container_one) (omega (arith, room))
      ⨾ by_rule refl (omega arith) refl tt
      ⨾ by_rule refl refl refl (omega (arith, room))
      ⨾ by_rule refl refl refl tt
      ⨾ by_rule refl refl (simp holds.container_one) tt
      ⨾ by_rule refl refl (simp (holds.container_two, short, small)) tt
      ⨾ by_rule refl refl (simp holds.container_two) (omega (arith, room))
      ⨾ tt

  right_2 : FollowRightly (among 3 catalog) (one_area capacity First) (site 2) [] (trail_2 cause effect)
  right_2 =
      let room = holds.place in
      by_rule refl refl refl (omega (arith, room))
      ⨾ by_rule refl (omega arith) refl tt
      ⨾ by_rule refl (omega arith) (simp holds.container_one) (omega (arith, room))
      ⨾ by_rule refl (omega arith) (simp holds.container_two) (omega (arith, room))
      ⨾ by_rule refl (omega arith) refl tt
      ⨾ by_rule refl (omega arith) refl tt
      ⨾ by_rule refl refl refl tt
      ⨾ by_rule refl refl refl (omega (arith, room))
      ⨾ by_rule refl refl refl (omega (arith, room))
      ⨾ tt

-- each packet that is delivered was put out before
links_1 : (cause effect : List ℕ) → FollowLinked (causal_trails cause effect) (site 1) [] (trail_1 cause effect)
links_1 cause effect = link 0 4 refl refl (omega arith) refl ⨾ link 1 4 refl refl (omega arith) refl ⨾ tt

links_2 : (cause effect : List ℕ) → FollowLinked (causal_trails cause effect) (site 2) [] (trail_2 cause effect)
links_2 cause effect =
    link 0 11 refl refl (omega arith) refl
    ⨾ link 0 4 refl refl (omega arith) refl
    ⨾ link 0 11 refl refl (omega arith) refl
    ⨾ link 1 11 refl refl (omega arith) refl
    ⨾ link 1 4 refl refl (omega arith) refl
    ⨾ tt

-- so the trails are right
pub causal_right : (catalog : Catalog) (capacity : ℕ) (cause effect : List ℕ)
    → HoldsCausalOrder catalog capacity cause effect → AreRightTrails catalog (λ k. one_area capacity First) (causal_trails cause effect)
causal_right catalog capacity cause effect holds =
    let same = same_catalog 3 catalog holds.sites holds.tolerated in
    let has = subst (λ c. HoldsCausalOrder c capacity cause effect) (sym same) holds in
    subst (λ c. AreRightTrails c (λ k. one_area capacity First) (causal_trails cause effect)) same
    (right_trails (among 3 catalog) (one_area capacity First) (causal_trails cause effect) refl
    (right_trail refl (right_0 catalog capacity cause effect has)
    ⨾ right_trail refl (right_1 catalog capacity cause effect has)
    ⨾ right_trail refl (right_2 catalog capacity cause effect has)
    ⨾ tt)
    (tt ⨾ links_1 cause effect ⨾ links_2 cause effect ⨾ tt))
