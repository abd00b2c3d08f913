use Rattle.walter_audit.specs.Firsts.{IsSoPair}
use Rattle.walter_audit.specs.Journals.{journals_of}
use Rattle.walter_audit.specs.Questions.{DoConflictUnseen}
use Rattle.walter_audit.specs.Reasons.{AreUnordered}
use Rattle.walter_audit.proofs.Asked.{pair_by, no_pair_by}
use Rattle.walter_audit.proofs.Owned.{is_unordered, unordered_pair}
use Rattle.walter_audit.proofs.conflicting.first_conflict.Goals as goal

pub returns-clause-first : goal.returns-clause-first
returns-clause-first c =
    let J = journals_of c.args.journals.now in
    pair_by (IsSoPair DoConflictUnseen J) (AreUnordered J) (is_unordered J) (unordered_pair J) c.first_pair.result c.first_pair.ensures.first

pub returns-clause-none : goal.returns-clause-none
returns-clause-none c =
    let J = journals_of c.args.journals.now in
    no_pair_by (IsSoPair DoConflictUnseen J) (AreUnordered J) (unordered_pair J) c.first_pair.result c.first_pair.ensures.none
