use Rattle.std.proofs.Common.{sym, subst}
use Rattle.walter_audit.specs.Starts.{AreFronts, AreRising}
use Rattle.walter_audit.proofs.Standing.{fronts_rise, unstarted_first, unstarted_none}
use Rattle.walter_audit.proofs.starting.unstarted_in.Goals as goal

pub invariant_of-first_in : goal.invariant_of-first_in
invariant_of-first_in c = record {
  rising = subst (λ fronts. AreRising fronts) (sym c.deref.ensures.value)
      (fronts_rise c.args.catalog.now.sites c.args.site c.args.records.now c.in_ok-fronts.fronts.items c.in_ok-fronts.ensures);
}

pub returns-clause-first : goal.returns-clause-first
returns-clause-first c =
    let F = subst (λ fronts. AreFronts c.args.catalog.now.sites c.args.site c.args.records.now fronts) (sym c.deref.ensures.value)
    c.in_ok-fronts.ensures in
    unstarted_first c.args.catalog.now c.args.site c.args.records.now c.deref.result.now F c.requires.among c.first_in.result
    c.first_in.ensures.first

pub returns-clause-none : goal.returns-clause-none
returns-clause-none c =
    let F = subst (λ fronts. AreFronts c.args.catalog.now.sites c.args.site c.args.records.now fronts) (sym c.deref.ensures.value)
    c.in_ok-fronts.ensures in
    unstarted_none c.args.catalog.now c.args.site c.args.records.now c.deref.result.now F c.requires.among c.first_in.result
    c.first_in.ensures.none
