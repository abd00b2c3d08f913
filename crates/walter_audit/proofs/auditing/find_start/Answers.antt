use Rattle.walter_audit.specs.Firsts.{IsFirst}
use Rattle.walter_audit.specs.Journals.{journals_of}
use Rattle.walter_audit.specs.Reasons.{IsUnstarted}
use Rattle.walter_audit.proofs.Judged.{no_start, past_start}
use Rattle.walter_audit.proofs.Premises.{among}
use Rattle.walter_audit.proofs.Queued.{of_some, of_none}
use Rattle.walter_audit.proofs.auditing.find_start.Goals as goal

pub first_unstarted-requires-clause-among : goal.first_unstarted-requires-clause-among
first_unstarted-requires-clause-among c =
    among c.args.catalog.now c.requires.sound.0 (journals_of c.args.journals.now) c.requires.sound.1.read

pub returns-in-Some : goal.returns-in-Some
returns-in-Some c = λ contents sound.
    let J = journals_of c.args.journals.now in (
      tt,
      no_start c.args.catalog.now J contents sound c.in-Some.a
          (of_some (IsFirst (IsUnstarted c.args.catalog.now J)) c.in_ok-a.field-0 c.in-Some.a c.in-Some.is c.in_ok-a.ensures.first),
    )

pub find_order-requires-clause-sound : goal.find_order-requires-clause-sound
find_order-requires-clause-sound c =
    let J = journals_of c.args.journals.now in (
      c.requires.sound.0,
      past_start c.args.catalog.now J c.requires.sound.0 c.requires.sound.1
          (of_none c.in_ok-a.field-0 c.in_default.not-Some c.in_ok-a.ensures.none),
    )

pub returns : goal.returns
returns c = λ contents sound.
    let J = journals_of c.args.journals.now in
    c.find_order.ensures contents (past_start c.args.catalog.now J contents sound
    (of_none c.in_ok-a.field-0 c.in_default.not-Some c.in_ok-a.ensures.none))
