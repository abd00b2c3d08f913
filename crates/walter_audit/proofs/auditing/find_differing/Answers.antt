use Rattle.walter_audit.specs.Firsts.{IsFirstPair}
use Rattle.walter_audit.specs.Journals.{journals_of}
use Rattle.walter_audit.specs.Reasons.{IsDifferent}
use Rattle.walter_audit.proofs.Judged.{no_differing, past_differing}
use Rattle.walter_audit.proofs.Premises.{numbered}
use Rattle.walter_audit.proofs.Queued.{of_some, of_none}
use Rattle.walter_audit.proofs.auditing.find_differing.Goals as goal

pub first_differing-requires-clause-numbered : goal.first_differing-requires-clause-numbered
first_differing-requires-clause-numbered c =
    numbered c.args.catalog.now c.requires.sound.0 (journals_of c.args.journals.now) c.requires.sound.1.read

pub returns-in-Some : goal.returns-in-Some
returns-in-Some c = λ contents sound.
    let J = journals_of c.args.journals.now in (
      tt,
      no_differing c.args.catalog.now J contents sound c.in-Some.a c.in-Some.b
          (of_some (λ (a, b). IsFirstPair (IsDifferent J) a b) c.first_differing.result (c.in-Some.a, c.in-Some.b) c.in-Some.is
          c.first_differing.ensures.first),
    )

pub find_twice-requires-clause-sound : goal.find_twice-requires-clause-sound
find_twice-requires-clause-sound c =
    let J = journals_of c.args.journals.now in (
      c.requires.sound.0,
      past_differing c.args.catalog.now J c.requires.sound.0 c.requires.sound.1
          (of_none c.first_differing.result c.in_default.not-Some c.first_differing.ensures.none),
    )

pub returns : goal.returns
returns c = λ contents sound.
    let J = journals_of c.args.journals.now in
    c.find_twice.ensures contents (past_differing c.args.catalog.now J contents sound
    (of_none c.first_differing.result c.in_default.not-Some c.first_differing.ensures.none))
