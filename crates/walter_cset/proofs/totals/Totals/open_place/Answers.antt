use Rattle.std.specs.Map.{lookup}
use Rattle.std.specs.BTreeMap.{is_at}
use Rattle.std.specs.Ordering.{nat_cmp}
use Rattle.std.proofs.Common.{◌≤◌}
use Rattle.walter_cset.specs.Totals.{most_taken}
use Rattle.std.proofs.Common.{rules, ◌≡◌, true, is_some, OnOk, Ok, Err, ap, sym, ◌∙◌, subst}
use Rattle.walter_cset.specs.Totals.{tally_of, total_of, sets_in, IsPlaced, IsWithin, AreWithin}
use Rattle.walter_cset.proofs.Sets.{Sets, no_open, sets_lent, total_at, place_at, placed, total_kept, still_placed}
use Rattle.walter_cset.proofs.totals.Totals.open_place.Goals as goal

pub returns-in_default-clause-placed : goal.returns-in_default-clause-placed
returns-in_default-clause-placed c =
    absurd (no_open c.self.inside.sets.entries c.args.oid c.in_default.ensures.value (subst (λ t. is_some (tally_of t.sets c.args.oid) ≡ true) (sym c.self.view_is) c.in_ok-open_set.ensures.opened))

pub invariant_of-self-2 : goal.invariant_of-self-2
invariant_of-self-2 c =
    let before = c.self.inside.sets.entries in
    let v = c.open_number.new.tally in
    let sets = sets_lent c.self.inside.sets _ c.args.oid c.in-Some.tally.now v c.in-Some.ensures.value (c.get_mut.follows.holds v) in (
      c.self.invariant.0,
      λ oid id. subst (IsWithin c.self.inside.taken)
          (sym (total_kept before _ c.args.oid v sets (λ name. c.open_number.ensures.numbers name ∙ sym (total_at before c.args.oid c.in-Some.tally.now name c.in-Some.ensures.value)) oid id))
          (c.self.invariant.1 oid id),
    )

pub returns : goal.returns
returns c =
    let before = c.self.inside.sets.entries in
    let oid = c.args.oid in
    let was = c.in-Some.tally.now in
    let v = c.open_number.new.tally in
    let sets = sets_lent c.self.inside.sets _ oid was v c.in-Some.ensures.value (c.get_mut.follows.holds v) in
    record {
      placed = elim c.open_number.result as (λ r. OnOk r (is_some (lookup (is_at (nat_cmp c.args.id)) v.entries) ≡ true) → OnOk r (IsPlaced (sets_in (c.get_mut.follows.lender v).entries) oid c.args.id)) [
        | Ok _ ↦ placed before _ oid v sets c.args.id
        | Err _ ↦ λ is. tt
      ] c.open_number.ensures.place;
      totals = λ other name.
          total_kept before _ oid v sets (λ id. c.open_number.ensures.numbers id ∙ sym (total_at before oid was id c.in-Some.ensures.value)) other name
          ∙ ap (λ t. total_of t other name) c.self.view_is ∙ c.in_ok-open_set.ensures.totals other name;
      still = λ other name had.
          still_placed before _ oid v sets (λ id is. c.open_number.ensures.still id (place_at before oid was id c.in-Some.ensures.value is)) other name
          (subst (λ t. IsPlaced t.sets other name) (sym c.self.view_is) (c.in_ok-open_set.ensures.still other name had));
      taken = ap (λ t. t.taken) c.self.view_is ∙ c.in_ok-open_set.ensures.taken;
    }

pub invariant_of-self : goal.invariant_of-self
invariant_of-self c =
    let same : c.get_mut.follows.lender-at-none.entries ≡ c.self.inside.sets.entries = search rules in
    subst (λ (es : Sets). (c.self.inside.taken ≤ most_taken) × AreWithin c.self.inside.taken (sets_in es)) (sym {A = Sets} same) c.self.invariant
