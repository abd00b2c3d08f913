use Rattle.std.proofs.Common.{◌≡◌, to_z, of_z, w64, ap, sym, ◌∙◌, arith}
use Rattle.std.proofs.lemmas.Int.{ints}
use Rattle.walter_cset.specs.Totals.{total_of}
use Rattle.walter_cset.proofs.Sets.{total_at, no_total}
use Rattle.walter_cset.proofs.totals.Totals.total.Goals as goal

pub returns-in-Some-clause-total : goal.returns-in-Some-clause-total
returns-in-Some-clause-total c =
    let here = total_at c.self.inside.sets.entries c.args.oid c.in-Some.tally.now c.args.id c.in-Some.ensures.value in
    let within = c.self.invariant.1 c.args.oid c.args.id in
    let same : to_z w64 (of_z w64 c.number_of.result) ≡ c.number_of.result = omega (arith, ints, c.number_of.ensures, here, within.0, within.1, c.self.invariant.0) in
    same ∙ c.number_of.ensures ∙ sym here
    ∙ ap (λ t. total_of t c.args.oid c.args.id) c.self.view_is

pub returns-in-Some-clause-within : goal.returns-in-Some-clause-within
returns-in-Some-clause-within c =
    let here = total_at c.self.inside.sets.entries c.args.oid c.in-Some.tally.now c.args.id c.in-Some.ensures.value in
    let within = c.self.invariant.1 c.args.oid c.args.id in
    (omega (arith, ints, c.number_of.ensures, here, within.0, c.self.invariant.0), omega (arith, ints, c.number_of.ensures, here, within.1, c.self.invariant.0))

pub returns-in-None-clause-total : goal.returns-in-None-clause-total
returns-in-None-clause-total c =
    sym (no_total c.self.inside.sets.entries c.args.oid c.args.id c.in-None.ensures.value) ∙ ap (λ t. total_of t c.args.oid c.args.id) c.self.view_is
