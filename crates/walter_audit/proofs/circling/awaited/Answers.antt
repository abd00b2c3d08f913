use Rattle.std.proofs.Common.{slice_get, ap, sym, ◌∙◌, subst}
use Rattle.std.specs.Prelude.{ℕ, IfNone}
use Rattle.walter_audit.specs.declared.finding.Named.{Named}
use Rattle.walter_audit.specs.Circles.{IsOwnOf, IsAwaited}
use Rattle.walter_audit.specs.Firsts.{IsFirstPlace, IsSoAt}
use Rattle.walter_audit.specs.Journals.{journals_of}
use Rattle.walter_audit.proofs.Asked.{got_at}
use Rattle.walter_audit.proofs.Waiting.{awaited_is, none_awaited, told_at}
use Rattle.walter_audit.proofs.circling.awaited.Goals as goal

pub returns-in_err-place-clause-none : goal.returns-in_err-place-clause-none
returns-in_err-place-clause-none c =
    let J = journals_of c.args.journals.now in
    let there = told_at c.args.journals.now c.in-Arrives.from c.in_ok-told.told.now (ap (λ i. slice_get c.args.journals.now i) (sym c.from.ensures)
    ∙ got_at c.args.journals.now c.from.result c.in_ok-told.told.now c.in_ok-told.ensures.lookup.3.0 c.in_ok-told.ensures.lookup.1)
    ∙ sym c.records.ensures in
    subst (λ r. IfNone r ((a b : Named) → ¬ IsAwaited J c.args.site c.args.item.now a b)) (sym c.from_residual-in_err-place.ensures)
    (subst (λ x. (a b : Named) → ¬ IsAwaited J c.args.site x a b) (sym c.in-Arrives.is)
    (none_awaited J c.args.site c.in-Arrives.from c.in-Arrives.index c.in-Arrives.seq
    (subst (λ rs. (index : ℕ) → ¬ IsSoAt (λ at rec. IsOwnOf c.in-Arrives.seq rec) c.in-Arrives.from rs index) (sym there)
    c.in_err-place.ensures.none)))

pub returns-clause-some : goal.returns-clause-some
returns-clause-some c =
    let J = journals_of c.args.journals.now in
    let there = told_at c.args.journals.now c.in-Arrives.from c.in_ok-told.told.now (ap (λ i. slice_get c.args.journals.now i) (sym c.from.ensures)
    ∙ got_at c.args.journals.now c.from.result c.in_ok-told.told.now c.in_ok-told.ensures.lookup.3.0 c.in_ok-told.ensures.lookup.1)
    ∙ sym c.records.ensures in
    subst (λ x. IsAwaited J c.args.site x (record { site = c.args.site; index = c.in-Arrives.index })
    (record { site = c.in-Arrives.from; index = c.in_ok-place.place })) (sym c.in-Arrives.is)
    (awaited_is J c.args.site c.in-Arrives.from c.in-Arrives.index c.in-Arrives.seq c.in_ok-place.place
    (subst (λ rs. IsFirstPlace (λ at rec. IsOwnOf c.in-Arrives.seq rec) c.in-Arrives.from rs c.in_ok-place.place) (sym there)
    c.in_ok-place.ensures.first))
