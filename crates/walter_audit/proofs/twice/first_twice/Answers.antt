use Rattle.walter_audit.specs.Firsts.{IsSoPair}
use Rattle.walter_audit.specs.Journals.{journals_of}
use Rattle.walter_audit.specs.Questions.{AreOneTwice}
use Rattle.walter_audit.specs.Reasons.{AreTwice}
use Rattle.walter_audit.proofs.Asked.{pair_by, no_pair_by}
use Rattle.walter_audit.proofs.Owned.{is_twice, twice_pair}
use Rattle.walter_audit.proofs.twice.first_twice.Goals as goal

pub returns-clause-first : goal.returns-clause-first
returns-clause-first c =
    let J = journals_of c.args.journals.now in
    pair_by (IsSoPair AreOneTwice J) (AreTwice J) (is_twice J) (twice_pair J) c.first_pair.result c.first_pair.ensures.first

pub returns-clause-none : goal.returns-clause-none
returns-clause-none c =
    let J = journals_of c.args.journals.now in
    no_pair_by (IsSoPair AreOneTwice J) (AreTwice J) (twice_pair J) c.first_pair.result c.first_pair.ensures.none
