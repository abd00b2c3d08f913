use Rattle.walter_audit.specs.Journals.{journals_of}
use Rattle.walter_audit.proofs.Judged.{begun, no_missing, past_missing}
use Rattle.walter_audit.proofs.Premises.{numbered}
use Rattle.walter_audit.proofs.auditing.find.Goals as goal

pub first_missing-requires-clause-numbered : goal.first_missing-requires-clause-numbered
first_missing-requires-clause-numbered c = numbered c.args.catalog.now c.requires.read.0 (journals_of c.args.journals.now) c.requires.read.1

pub returns-in-Some : goal.returns-in-Some
returns-in-Some c = λ contents read.
    let J = journals_of c.args.journals.now in
    (tt, no_missing c.args.catalog.now J contents (begun c.args.catalog.now J contents read) c.in-Some.a c.in-Some.ensures.first)

pub find_differing-requires-clause-sound : goal.find_differing-requires-clause-sound
find_differing-requires-clause-sound c =
    let J = journals_of c.args.journals.now in
    let K = c.requires.read.0 in
    (K, past_missing c.args.catalog.now J K (begun c.args.catalog.now J K c.requires.read.1) c.in_default.ensures.none)

pub returns : goal.returns
returns c = λ contents read.
    let J = journals_of c.args.journals.now in
    c.find_differing.ensures contents
    (past_missing c.args.catalog.now J contents (begun c.args.catalog.now J contents read) c.in_default.ensures.none)
