use Rattle.std.proofs.Common.{ℕ, ◌+ℤ◌, to_z, of_z, w64, if◌then◌else◌}
use Rattle.std.specs.Prelude.{ℤ, pos}
use Rattle.walter_cset.specs.Tallies.{number_at}
use Rattle.std.proofs.Common.{rules, ◌≡◌, ◌<◌, ◌≤◌, ◌&&◌, nat_eq, arith, ap, sym, ◌∙◌, subst}
use Rattle.std.proofs.lemmas.Int.{ints}
use Rattle.walter_base.specs.Names.{same_object}
use Rattle.walter_cset.specs.Totals.{total_of, total_in, sets_in, IsPlaced, AreWithin, most_taken}
use Rattle.walter_cset.proofs.Sets.{Sets, no_place, sets_lent, total_at, place_at, still_placed, total_moved, moved_within}
use Rattle.walter_cset.proofs.totals.Totals.move_count.Goals as goal

pub move_number-requires-clause-place : goal.move_number-requires-clause-place
move_number-requires-clause-place c =
    place_at c.self.inside.sets.entries c.args.oid c.in-Some.tally.now c.args.id c.in-Some.ensures.value (subst (λ t. IsPlaced t.sets c.args.oid c.args.id) (sym c.self.view_is) c.requires.placed)

pub move_number-requires-clause-low : goal.move_number-requires-clause-low
move_number-requires-clause-low c =
    let here = total_at c.self.inside.sets.entries c.args.oid c.in-Some.tally.now c.args.id c.in-Some.ensures.value in
    let within = c.self.invariant.1 c.args.oid c.args.id in
    omega (arith, ints, here, within.0, within.1, c.self.invariant.0, c.requires.step.0, c.requires.step.1)

pub move_number-requires-clause-high : goal.move_number-requires-clause-high
move_number-requires-clause-high c =
    let here = total_at c.self.inside.sets.entries c.args.oid c.in-Some.tally.now c.args.id c.in-Some.ensures.value in
    let within = c.self.invariant.1 c.args.oid c.args.id in
    omega (arith, ints, here, within.0, within.1, c.self.invariant.0, c.requires.step.0, c.requires.step.1)

pub invariant_of-self-2 : goal.invariant_of-self-2
invariant_of-self-2 c =
    let before = c.self.inside.sets.entries in
    let oid = c.args.oid in
    let was = c.in-Some.tally.now in
    let v = c.move_number.new.tally in
    let sets = sets_lent c.self.inside.sets _ oid was v c.in-Some.ensures.value (c.get_mut.follows.holds v) in
    let same : to_z w64 (of_z w64 c.args.by) ≡ c.args.by = omega (arith, ints, c.requires.step.0, c.requires.step.1) in
    let moved = λ (name : ℕ). c.move_number.ensures.moved name ∙ ap (λ (n : ℤ). number_at was name +ℤ (if nat_eq c.args.id name then n else pos 0)) same in
    let room = subst (λ t. t.taken < most_taken) (sym c.self.view_is) c.requires.room in (
      omega (arith, room),
      λ other name.
          moved_within c.self.inside.taken (total_in (sets_in before) other name) _ c.args.by (same_object oid other && nat_eq c.args.id name)
          (c.self.invariant.1 other name) c.requires.step
          (total_moved before _ oid was v sets c.in-Some.ensures.value c.args.id c.args.by moved other name),
    )

pub returns : goal.returns
returns c =
    let before = c.self.inside.sets.entries in
    let oid = c.args.oid in
    let was = c.in-Some.tally.now in
    let v = c.move_number.new.tally in
    let sets = sets_lent c.self.inside.sets _ oid was v c.in-Some.ensures.value (c.get_mut.follows.holds v) in
    let same : to_z w64 (of_z w64 c.args.by) ≡ c.args.by = omega (arith, ints, c.requires.step.0, c.requires.step.1) in
    let moved = λ (name : ℕ). c.move_number.ensures.moved name ∙ ap (λ (n : ℤ). number_at was name +ℤ (if nat_eq c.args.id name then n else pos 0)) same in
    let taken = ap (λ t. t.taken) c.self.view_is in
    record {
      totals = λ other name.
          total_moved before _ oid was v sets c.in-Some.ensures.value c.args.id c.args.by moved other name
          ∙ ap (λ t. total_of t other name +ℤ (if same_object oid other && nat_eq c.args.id name then c.args.by else pos 0)) c.self.view_is;
      still = λ other name had.
          still_placed before _ oid v sets (λ id is. c.move_number.ensures.still id (place_at before oid was id c.in-Some.ensures.value is)) other name
          (subst (λ t. IsPlaced t.sets other name) (sym c.self.view_is) had);
      taken = omega (arith, taken);
    }

pub returns-in_default-clause-totals : goal.returns-in_default-clause-totals
returns-in_default-clause-totals c =
    absurd (no_place c.self.inside.sets.entries c.args.oid c.args.id c.in_default.ensures.value (subst (λ t. IsPlaced t.sets c.args.oid c.args.id) (sym c.self.view_is) c.requires.placed))

pub invariant_of-self : goal.invariant_of-self
invariant_of-self c =
    let same : c.get_mut.follows.lender-at-none.entries ≡ c.self.inside.sets.entries = search rules in
    subst (λ (es : Sets). (c.self.inside.taken ≤ most_taken) × AreWithin c.self.inside.taken (sets_in es)) (sym {A = Sets} same) c.self.invariant
