use Rattle.std.proofs.Common.{◌≡◌, true, is_some, ap, sym, ◌∙◌, subst}
use Rattle.walter_cset.specs.Tallies.{number_in}
use Rattle.walter_cset.specs.Totals.{tally_of, total_of, IsPlaced, IsWithin}
use Rattle.walter_cset.proofs.Sets.{found_same, none_from, no_total, no_place, total_kept, still_placed, opened}
use Rattle.walter_cset.proofs.totals.Totals.open_set.Goals as goal

pub returns-then-contains_key-clause-opened : goal.returns-then-contains_key-clause-opened
returns-then-contains_key-clause-opened c =
    subst (λ t. is_some (tally_of t.sets c.args.oid) ≡ true) c.self.view_is
    (found_same c.self.inside.sets.entries c.args.oid ∙ sym c.contains_key.ensures ∙ c.if-contains_key.true)

pub invariant_of-self-2 : goal.invariant_of-self-2
invariant_of-self-2 c =
    let before = c.self.inside.sets.entries in
    let after = c.insert.new.self.entries in
    let none = none_from _ (sym c.contains_key.ensures ∙ c.if-contains_key.false) in (
      c.self.invariant.0,
      λ oid id. subst (IsWithin c.self.inside.taken)
          (sym (total_kept before after c.args.oid c.new.result c.in_ok-insert.ensures.updates.0
          (λ name. ap (λ es. number_in es name) c.new.ensures.empty ∙ sym (no_total before c.args.oid name none)) oid id)) (c.self.invariant.1 oid id),
    )

pub returns-clause-opened : goal.returns-clause-opened
returns-clause-opened c = opened c.self.inside.sets.entries c.insert.new.self.entries c.args.oid c.new.result c.in_ok-insert.ensures.updates.0

pub returns-clause-totals : goal.returns-clause-totals
returns-clause-totals c = λ other id.
    let before = c.self.inside.sets.entries in
    let none = none_from _ (sym c.contains_key.ensures ∙ c.if-contains_key.false) in
    total_kept before c.insert.new.self.entries c.args.oid c.new.result c.in_ok-insert.ensures.updates.0
    (λ name. ap (λ es. number_in es name) c.new.ensures.empty ∙ sym (no_total before c.args.oid name none)) other id
    ∙ ap (λ t. total_of t other id) c.self.view_is

pub returns-clause-still : goal.returns-clause-still
returns-clause-still c = λ other id was.
    let before = c.self.inside.sets.entries in
    let none = none_from _ (sym c.contains_key.ensures ∙ c.if-contains_key.false) in
    still_placed before c.insert.new.self.entries c.args.oid c.new.result c.in_ok-insert.ensures.updates.0
    (λ name placed. absurd (no_place before c.args.oid name none placed)) other id (subst (λ t. IsPlaced t.sets other id) (sym c.self.view_is) was)
