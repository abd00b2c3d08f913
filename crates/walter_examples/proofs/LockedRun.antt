-- The run of two sites whose second commit meets the lock of its cause is right and linked, and spells its history.
use Rattle.std.proofs.Common.{◌≡◌, ℕ, List, [], refl, sym, subst, arith}
use Rattle.walter_base.specs.declared.catalog.Catalog.{Catalog}
use Rattle.walter_base.specs.declared.format.Format.TheVariants.{First}
use Rattle.walter_rules.specs.Layouts.{one_area}
use Rattle.walter_rules.specs.Merges.{merge}
use Rattle.walter_runs.specs.Runs.{AreRightTrails}
use Rattle.walter_refinement.specs.Spelled.{psi_of}
use Rattle.walter_examples.specs.Entries.{site, object}
use Rattle.walter_examples.specs.LockedByACause.{HoldsLockedCause, owner_trail, twice_trail, locked_trails, locked_history}
use Rattle.walter_examples.proofs.WrittenTrails.{◌⨾◌, among, same_catalog, by_rule, short_enough, small_enough, FollowRightly, FollowLinked, link, right_trail, right_trails}

-- the history comes of computing
pub locked_told : (catalog : Catalog) (first second : List ℕ)
    → psi_of catalog (merge (locked_trails first second)) ≡ locked_history first second
locked_told catalog first second = refl

module _ (catalog : Catalog) (capacity : ℕ) (first second : List ℕ)
    (holds : HoldsLockedCause (among 2 catalog) capacity first second) where
  -- each entry of site 0 comes to what the rules say
  owner_right : FollowRightly (among 2 catalog) (one_area capacity First) (site 0) [] (owner_trail first)
  owner_right =
      let room = holds.place in
      by_rule refl refl refl (omega (arith, room))
      ⨾ by_rule refl (omega arith) (simp holds.container_one) (omega (arith, room))
      ⨾ by_rule refl (omega arith) (simp holds.container_one) tt
      ⨾ by_rule refl (omega arith) (simp holds.container_one) (omega (arith, room))
      ⨾ by_rule refl (omega arith) (simp holds.container_one) tt
      ⨾ by_rule refl (omega arith) refl tt
      ⨾ by_rule refl refl refl (omega (arith, room))
      ⨾ by_rule refl (omega arith) (simp holds.container_one) (omega (arith, room))
      ⨾ tt

  -- and of site 1
  twice_right : FollowRightly (among 2 catalog) (one_area capacity First) (site 1) [] (twice_trail first second)
  twice_right =
      let room = holds.place in
      let first_short = short_enough first holds.first_short in
      let first_small = small_enough (object 1 5) first holds.first_short in
      let second_short = short_enough second holds.second_short in
      let second_small = small_enough (object 1 5) second holds.second_short in
      by_rule refl refl refl (omega (arith, room))
      ⨾ by_rule refl refl refl tt
      ⨾ by_rule refl refl (simp (holds.container_one, first_short, first_small)) tt
      ⨾ by_rule refl refl (simp holds.container_one) (omega (arith, room))
      ⨾ by_rule refl (omega arith) (simp holds.container_one) (omega (arith, room))
      ⨾ by_rule refl refl refl tt
      ⨾ by_rule refl refl refl tt
      ⨾ by_rule refl refl (simp (holds.container_one, second_short, second_small)) tt
      ⨾ by_rule refl refl (simp holds.container_one) (omega (arith, room))
      ⨾ by_rule refl (omega arith) (simp holds.container_one) (omega (arith, room))
      ⨾ by_rule refl (omega arith) (simp holds.container_one) (omega (arith, room))
      ⨾ by_rule refl refl refl tt
      ⨾ tt

-- each packet that is delivered was put out before
owner_links : (first second : List ℕ) → FollowLinked (locked_trails first second) (site 0) [] (owner_trail first)
owner_links first second =
    link 0 4 refl refl (omega arith) refl
    ⨾ link 2 10 refl refl (omega arith) refl
    ⨾ link 1 6 refl refl (omega arith) refl
    ⨾ link 2 10 refl refl (omega arith) refl
    ⨾ link 3 13 refl refl (omega arith) refl
    ⨾ link 2 10 refl refl (omega arith) refl
    ⨾ tt

twice_links : (first second : List ℕ) → FollowLinked (locked_trails first second) (site 1) [] (twice_trail first second)
twice_links first second =
    link 0 5 refl refl (omega arith) refl
    ⨾ link 2 12 refl refl (omega arith) refl
    ⨾ link 5 16 refl refl (omega arith) refl
    ⨾ tt

-- so the trails are right
pub locked_right : (catalog : Catalog) (capacity : ℕ) (first second : List ℕ)
    → HoldsLockedCause catalog capacity first second → AreRightTrails catalog (λ k. one_area capacity First) (locked_trails first second)
locked_right catalog capacity first second holds =
    let same = same_catalog 2 catalog holds.sites holds.tolerated in
    let has = subst (λ c. HoldsLockedCause c capacity first second) (sym same) holds in
    subst (λ c. AreRightTrails c (λ k. one_area capacity First) (locked_trails first second)) same
    (right_trails (among 2 catalog) (one_area capacity First) (locked_trails first second) refl
    (right_trail refl (owner_right catalog capacity first second has)
    ⨾ right_trail refl (twice_right catalog capacity first second has)
    ⨾ tt)
    (owner_links first second ⨾ twice_links first second ⨾ tt))
