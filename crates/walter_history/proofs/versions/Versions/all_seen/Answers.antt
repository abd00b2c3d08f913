use Rattle.std.proofs.Common.{ap, sym, ◌∙◌}
use Rattle.walter_base.specs.Conflicts.{first_outside}
use Rattle.walter_history.proofs.Covered.{none_outside}
use Rattle.walter_history.proofs.versions.Versions.all_seen.Goals as goal

pub returns-then-is_covered-clause-seen : goal.returns-then-is_covered-clause-seen
returns-then-is_covered-clause-seen c =
    let by = c.args.by.now in
    ap (λ s. first_outside by s.versions) (sym c.self.view_is)
    ∙ none_outside by c.self.inside.items.items (λ k d within. c.is_covered.ensures c.if-is_covered.true _ (c.self.invariant k d within))
