use Rattle.std.proofs.Common.{refl, arith}
use Rattle.walter_txcode.proofs.Failures.{IfUnspelled-weaker, is_unspelled, is_fault}
use Rattle.walter_txcode.proofs.ByKind.{no_kind, no_fields, takes_kind}
use Rattle.walter_record.proofs.Records.{kinds_of}
use Rattle.walter_record.proofs.decoding.read_record.Goals as goal

pub returns-in_err-kind-clause-fault : goal.returns-in_err-kind-clause-fault
returns-in_err-kind-clause-fault c =
    is_unspelled c.from_residual.result c.from_residual.ensures.1 (no_kind (kinds_of c.args.format c.args.sites) (c.in_err-kind.ensures.short.0 refl))

pub returns-in_err-journaled-clause-fault : goal.returns-in_err-journaled-clause-fault
returns-in_err-journaled-clause-fault c =
    let exit = c.from_residual-in_err-journaled in
    let fault = c.in_err-journaled in
    is_fault _ exit.result fault.field-0.0 exit.ensures.1
    (IfUnspelled-weaker fault.field-0.0 (no_fields (kinds_of c.args.format c.args.sites) c.in_ok-kind.kind (omega arith) c.in_ok-kind.ensures.taken.front) fault.ensures.fault)

pub returns-clause-taken : goal.returns-clause-taken
returns-clause-taken c =
    let found = c.in_ok-journaled in
    takes_kind (kinds_of c.args.format c.args.sites) c.in_ok-kind.kind found.journaled found.ensures.spelled.0 c.in_ok-kind.ensures.taken found.ensures.taken
