use Rattle.std.proofs.Common.{sym, subst}
use Rattle.std.specs.Prelude.{IfNone}
use Rattle.walter_audit.specs.Firsts.{IsSoPair}
use Rattle.walter_audit.specs.Journals.{journals_of}
use Rattle.walter_audit.specs.Questions.{DoDiffer}
use Rattle.walter_audit.specs.Reasons.{IsDifferent}
use Rattle.walter_audit.specs.declared.finding.Named.{Named}
use Rattle.walter_audit.proofs.Asked.{pair_by, no_pair_by}
use Rattle.walter_audit.proofs.Owned.{is_different, different_pair, different_so}
use Rattle.walter_audit.proofs.differing.first_differing.Goals as goal

pub returns-in_err-first_of-clause-none : goal.returns-in_err-first_of-clause-none
returns-in_err-first_of-clause-none c =
    let J = journals_of c.args.journals.now in
    subst (λ r. IfNone r ((a b : Named) → ¬ IsDifferent J a b)) (sym c.from_residual.ensures)
    (λ a b d. c.in_err-first_of.ensures.none a (different_so J c.requires.numbered a b d))

pub returns-clause-first : goal.returns-clause-first
returns-clause-first c =
    let J = journals_of c.args.journals.now in
    pair_by (IsSoPair DoDiffer J) (IsDifferent J) (is_different J) (different_pair J) c.first_pair.result c.first_pair.ensures.first

pub returns-clause-none : goal.returns-clause-none
returns-clause-none c =
    let J = journals_of c.args.journals.now in
    no_pair_by (IsSoPair DoDiffer J) (IsDifferent J) (different_pair J) c.first_pair.result c.first_pair.ensures.none
