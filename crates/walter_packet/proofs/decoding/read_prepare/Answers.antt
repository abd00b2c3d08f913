use Rattle.std.proofs.Common.{refl, arith}
use Rattle.walter_base.specs.declared.format.Format.TheVariants.{Second}
use Rattle.walter_names.specs.Names.{tid_spelled, IsTid}
use Rattle.walter_txcode.specs.Spelling.{vector_spelled, objects_spelled, AreSpelledObjects}
use Rattle.walter_txcode.proofs.Failures.{IfUnspelled-weaker, is_unspelled, is_fault}
use Rattle.walter_txcode.proofs.Joined.{Both, both_spelled, IsVector, no_first, no_second, no_number, no_tid, no_vector, free_numbers, free_tids, free_vectors}
use Rattle.walter_packet.proofs.decoding.read_prepare.Goals as goal

pub returns-in_err-slow-clause-fault : goal.returns-in_err-slow-clause-fault
returns-in_err-slow-clause-fault c =
    let n = c.args.sites in
    is_unspelled c.from_residual.result c.from_residual.ensures.1
    (no_first (Both IsTid (Both (IsVector n) AreSpelledObjects)) (both_spelled tid_spelled (both_spelled (vector_spelled Second) objects_spelled)) (no_number (c.in_err-slow.ensures.short.0 refl)))

pub returns-in_err-tid-clause-fault : goal.returns-in_err-tid-clause-fault
returns-in_err-tid-clause-fault c =
    let n = c.args.sites in
    let exit = c.from_residual-in_err-tid in
    let slow = c.in_ok-slow in
    is_unspelled exit.result exit.ensures.1
    (no_second free_numbers slow.slow (omega arith) slow.ensures.taken.front (no_first (Both (IsVector n) AreSpelledObjects) (both_spelled (vector_spelled Second) objects_spelled) (no_tid (c.in_err-tid.ensures.short.0 refl))))

pub returns-in_err-start-clause-fault : goal.returns-in_err-start-clause-fault
returns-in_err-start-clause-fault c =
    let n = c.args.sites in
    let exit = c.from_residual-in_err-start in
    let fault = c.in_err-start in
    let slow = c.in_ok-slow in
    let tid = c.in_ok-tid in
    is_fault _ exit.result fault.field-0.0 exit.ensures.1
    (IfUnspelled-weaker fault.field-0.0
    (λ none. no_second free_numbers slow.slow (omega arith) slow.ensures.taken.front (no_second free_tids tid.tid tid.ensures.range tid.ensures.taken.front (no_first AreSpelledObjects objects_spelled (no_vector Second n none)))) fault.ensures.fault)

pub returns-in_err-objects-clause-fault : goal.returns-in_err-objects-clause-fault
returns-in_err-objects-clause-fault c =
    let n = c.args.sites in
    let exit = c.from_residual-in_err-objects in
    let fault = c.in_err-objects in
    let slow = c.in_ok-slow in
    let tid = c.in_ok-tid in
    let start = c.in_ok-start in
    is_fault _ exit.result fault.field-0.0 exit.ensures.1
    (IfUnspelled-weaker fault.field-0.0
    (λ none. no_second free_numbers slow.slow (omega arith) slow.ensures.taken.front
    (no_second free_tids tid.tid tid.ensures.range tid.ensures.taken.front (no_second (free_vectors Second n) start.start (start.ensures.counted, start.ensures.range) start.ensures.taken.front none))) fault.ensures.fault)
