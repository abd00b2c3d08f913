use Rattle.walter_audit.specs.Firsts.{IsSo}
use Rattle.walter_audit.specs.Journals.{journals_of}
use Rattle.walter_audit.specs.Questions.{Lacks}
use Rattle.walter_audit.specs.Reasons.{IsMissing}
use Rattle.walter_audit.proofs.Asked.{first_by, none_by}
use Rattle.walter_audit.proofs.Owned.{is_missing, missing_so}
use Rattle.walter_audit.proofs.missing.first_missing.Goals as goal

pub returns-clause-first : goal.returns-clause-first
returns-clause-first c =
    let J = journals_of c.args.journals.now in
    first_by (IsSo (λ at rec. Lacks J rec) J) (IsMissing J) (is_missing J c.requires.numbered) (missing_so J c.requires.numbered)
    c.first_of.result c.first_of.ensures.first

pub returns-clause-none : goal.returns-clause-none
returns-clause-none c =
    let J = journals_of c.args.journals.now in
    none_by (IsSo (λ at rec. Lacks J rec) J) (IsMissing J) (missing_so J c.requires.numbered)
    c.first_of.result c.first_of.ensures.none
