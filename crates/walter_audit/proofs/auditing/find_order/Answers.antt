use Rattle.walter_audit.specs.Firsts.{IsFirstPair}
use Rattle.walter_audit.specs.Journals.{journals_of}
use Rattle.walter_audit.specs.Reasons.{AreUnordered}
use Rattle.walter_audit.proofs.Judged.{no_conflict, none_missing, concluded}
use Rattle.walter_audit.proofs.Premises.{numbered, among}
use Rattle.walter_audit.proofs.Queued.{of_some, of_none}
use Rattle.walter_audit.proofs.auditing.find_order.Goals as goal

pub queues_of-requires-clause-among : goal.queues_of-requires-clause-among
queues_of-requires-clause-among c =
    among c.args.catalog.now c.requires.sound.0 (journals_of c.args.journals.now) c.requires.sound.1.read

pub find_circle-requires-clause-numbered : goal.find_circle-requires-clause-numbered
find_circle-requires-clause-numbered c =
    numbered c.args.catalog.now c.requires.sound.0 (journals_of c.args.journals.now) c.requires.sound.1.read

pub find_circle-requires-clause-made : goal.find_circle-requires-clause-made
find_circle-requires-clause-made c =
    none_missing c.args.catalog.now (journals_of c.args.journals.now) c.requires.sound.0 c.requires.sound.1

pub returns-in-Some : goal.returns-in-Some
returns-in-Some c = λ contents sound.
    let J = journals_of c.args.journals.now in (
      tt,
      no_conflict c.args.catalog.now J contents sound c.in-Some.a c.in-Some.b
          (of_some (λ (a, b). IsFirstPair (AreUnordered J) a b) c.in_ok-a.field-0 (c.in-Some.a, c.in-Some.b) c.in-Some.is
          c.in_ok-a.ensures.first),
    )

pub returns : goal.returns
returns c = λ contents sound.
    concluded c.args.catalog.now (journals_of c.args.journals.now) contents sound
    (of_none c.in_ok-a.field-0 c.in_default.not-Some c.in_ok-a.ensures.none) c.in_ok-circle.circle c.in_ok-walk.walk.order
    c.conclude.result c.in_ok-circle.ensures.first c.in_ok-circle.ensures.none c.conclude.ensures.circle c.conclude.ensures.order
