use Rattle.walter_audit.specs.Firsts.{IsFirstPair}
use Rattle.walter_audit.specs.Journals.{journals_of}
use Rattle.walter_audit.specs.Reasons.{AreTwice}
use Rattle.walter_audit.proofs.Judged.{no_twice, past_twice}
use Rattle.walter_audit.proofs.Premises.{at_home}
use Rattle.walter_audit.proofs.Queued.{of_some, of_none}
use Rattle.walter_audit.proofs.auditing.find_twice.Goals as goal

pub first_twice-requires-clause-home : goal.first_twice-requires-clause-home
first_twice-requires-clause-home c =
    at_home c.args.catalog.now c.requires.sound.0 (journals_of c.args.journals.now) c.requires.sound.1.read

pub returns-in-Some : goal.returns-in-Some
returns-in-Some c = λ contents sound.
    let J = journals_of c.args.journals.now in (
      tt,
      no_twice c.args.catalog.now J contents sound c.in-Some.a c.in-Some.b
          (of_some (λ (a, b). IsFirstPair (AreTwice J) a b) c.in_ok-a.field-0 (c.in-Some.a, c.in-Some.b) c.in-Some.is
          c.in_ok-a.ensures.first),
    )

pub find_start-requires-clause-sound : goal.find_start-requires-clause-sound
find_start-requires-clause-sound c =
    let J = journals_of c.args.journals.now in (
      c.requires.sound.0,
      past_twice c.args.catalog.now J c.requires.sound.0 c.requires.sound.1
          (of_none c.in_ok-a.field-0 c.in_default.not-Some c.in_ok-a.ensures.none),
    )

pub returns : goal.returns
returns c = λ contents sound.
    let J = journals_of c.args.journals.now in
    c.find_start.ensures contents (past_twice c.args.catalog.now J contents sound
    (of_none c.in_ok-a.field-0 c.in_default.not-Some c.in_ok-a.ensures.none))
