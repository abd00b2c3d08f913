use Rattle.std.proofs.Common.{refl}
use Rattle.walter_names.specs.Names.{tid_spelled, IsTid}
use Rattle.walter_txcode.specs.Spelling.{objects_spelled, AreSpelledObjects}
use Rattle.walter_txcode.proofs.Failures.{IfUnspelled-weaker, is_unspelled, is_fault}
use Rattle.walter_txcode.proofs.Joined.{Both, both_spelled, no_first, no_second, no_version, no_tid, free_versions, free_tids}
use Rattle.walter_record.proofs.decoding.read_prepared.Goals as goal

pub returns-in_err-slow-clause-fault : goal.returns-in_err-slow-clause-fault
returns-in_err-slow-clause-fault c =
    is_unspelled c.from_residual.result c.from_residual.ensures.1 (no_first (Both IsTid AreSpelledObjects) (both_spelled tid_spelled objects_spelled) (no_version (c.in_err-slow.ensures.short.0 refl)))

pub returns-in_err-tid-clause-fault : goal.returns-in_err-tid-clause-fault
returns-in_err-tid-clause-fault c =
    let exit = c.from_residual-in_err-tid in
    let slow = c.in_ok-slow in
    is_unspelled exit.result exit.ensures.1 (no_second free_versions slow.slow slow.ensures.range slow.ensures.taken.front (no_first AreSpelledObjects objects_spelled (no_tid (c.in_err-tid.ensures.short.0 refl))))

pub returns-in_err-objects-clause-fault : goal.returns-in_err-objects-clause-fault
returns-in_err-objects-clause-fault c =
    let exit = c.from_residual-in_err-objects in
    let fault = c.in_err-objects in
    let slow = c.in_ok-slow in
    let tid = c.in_ok-tid in
    is_fault _ exit.result fault.field-0.0 exit.ensures.1
    (IfUnspelled-weaker fault.field-0.0 (λ none. no_second free_versions slow.slow slow.ensures.range slow.ensures.taken.front (no_second free_tids tid.tid tid.ensures.range tid.ensures.taken.front none)) fault.ensures.fault)
