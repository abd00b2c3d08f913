use Rattle.std.proofs.Common.{◌≡◌, true, false}
use Rattle.walter_record.specs.Spelling.{record_spelled, HasRecordSpelling}
use Rattle.walter_audit.proofs.Queued.{of_some}
use Rattle.walter_audit.proofs.Readers.{spells_none}
use Rattle.walter_audit.proofs.reading.record_in.Goals as goal

pub returns-else-can_stand-clause-none : goal.returns-else-can_stand-clause-none
returns-else-can_stand-clause-none c =
    let body = c.args.body.now in
    let found = of_some (λ r. HasRecordSpelling c.args.format c.args.sites r × (body ≡ record_spelled c.args.format r)) _
    c.in-Ok-Some.journaled c.in-Ok-Some.field-0-is c.in-Ok-Some.ensures.some in
    spells_none c.args.sites c.args.format body c.in-Ok-Some.journaled found.0 found.1
    (λ stands. (let e : false ≡ true = c.if-can_stand.ensures.1 stands in cc))
