use Rattle.std.proofs.Common.{rules, ◌≡◌, ◌≤◌, ap, sym, ◌∙◌, subst}
use Rattle.walter_cset.specs.Totals.{total_of, sets_in, IsWithin, AreWithin, most_taken}
use Rattle.walter_cset.proofs.Sets.{Sets, sets_lent, total_at, total_kept}
use Rattle.walter_cset.proofs.totals.Totals.close_place.Goals as goal

pub invariant_of-self-2 : goal.invariant_of-self-2
invariant_of-self-2 c =
    let before = c.self.inside.sets.entries in
    let v = c.close_number.new.tally in
    let sets = sets_lent c.self.inside.sets _ c.args.oid c.in-Some.tally.now v c.in-Some.ensures.value (c.get_mut.follows.holds v) in (
      c.self.invariant.0,
      λ oid id. subst (IsWithin c.self.inside.taken)
          (sym (total_kept before _ c.args.oid v sets (λ name. c.close_number.ensures name ∙ sym (total_at before c.args.oid c.in-Some.tally.now name c.in-Some.ensures.value)) oid id))
          (c.self.invariant.1 oid id),
    )

pub returns-clause-totals : goal.returns-clause-totals
returns-clause-totals c = λ other name.
    let before = c.self.inside.sets.entries in
    let v = c.close_number.new.tally in
    let sets = sets_lent c.self.inside.sets _ c.args.oid c.in-Some.tally.now v c.in-Some.ensures.value (c.get_mut.follows.holds v) in
    total_kept before _ c.args.oid v sets (λ id. c.close_number.ensures id ∙ sym (total_at before c.args.oid c.in-Some.tally.now id c.in-Some.ensures.value)) other name
    ∙ ap (λ t. total_of t other name) c.self.view_is

pub invariant_of-self : goal.invariant_of-self
invariant_of-self c =
    let same : c.get_mut.follows.lender-at-none.entries ≡ c.self.inside.sets.entries = search rules in
    subst (λ (es : Sets). (c.self.inside.taken ≤ most_taken) × AreWithin c.self.inside.taken (sets_in es)) (sym {A = Sets} same) c.self.invariant
