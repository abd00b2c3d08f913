use Rattle.std.proofs.Common.{sym, subst}
use Rattle.walter_audit.specs.Contents.{AreAllRead}
use Rattle.walter_audit.specs.declared.finding.Finding.TheVariants.{No}
use Rattle.walter_audit.specs.declared.finding.Reason.TheVariants.{Unreadable}
use Rattle.walter_audit.specs.Findings.{IsFound, IfNo}
use Rattle.walter_audit.specs.Firsts.{IsFirst}
use Rattle.walter_audit.specs.Journals.{journals_of}
use Rattle.walter_audit.specs.Reading.{contents_of, IsUnreadableAt}
use Rattle.walter_audit.proofs.Judged.{no_unreadable, never_found}
use Rattle.walter_audit.proofs.Queued.{ok_by}
use Rattle.walter_audit.proofs.Readers.{of_ok, of_err}
use Rattle.walter_audit.proofs.auditing.audit.Goals as goal

pub returns-in-Ok-clause-never : goal.returns-in-Ok-clause-never
returns-in-Ok-clause-never c = λ layouts trails whole left.
    let catalog = c.args.catalog.now in
    let K = contents_of c.args.contents.now in
    let read = subst (λ js. AreAllRead catalog K (journals_of js)) (sym c.deref.ensures.value)
    (of_ok (λ js. AreAllRead catalog K (journals_of js.items)) c.in_ok-read.read c.in-Ok.journals c.in-Ok.is c.in_ok-read.ensures.read) in
    ok_by (IsFound catalog K) (λ finding. IfNo finding (λ reason a b. ⊥))
    (λ finding is. never_found catalog K finding is layouts trails whole left) c.find.result (c.find.ensures K read)

pub returns-in-Err-clause-never : goal.returns-in-Err-clause-never
returns-in-Err-clause-never c = λ layouts trails whole left.
    let catalog = c.args.catalog.now in
    let K = contents_of c.args.contents.now in
    let a = c.in-Err.a in
    let first = of_err (IsFirst (IsUnreadableAt catalog K)) c.in_ok-read.read a c.in-Err.is c.in_ok-read.ensures.unreadable in
    never_found catalog K (No Unreadable a a) (tt, no_unreadable catalog K a first) layouts trails whole left
