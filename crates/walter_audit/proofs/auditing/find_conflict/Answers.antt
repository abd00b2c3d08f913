use Rattle.walter_audit.specs.Journals.{journals_of}
use Rattle.walter_audit.proofs.Judged.{none_unordered}
use Rattle.walter_audit.proofs.auditing.find_conflict.Goals as goal

pub returns-then-branch-clause-none : goal.returns-then-branch-clause-none
returns-then-branch-clause-none c = none_unordered c.args.catalog.now (journals_of c.args.journals.now) c.requires.sound.0 c.requires.sound.1
    c.args.order.now (c.requires.order c.if-whole.true) (c.in_ok-see_last.ensures c.if-branch.true)
