use Rattle.std.proofs.Common.{refl, arith}
use Rattle.walter_txcode.proofs.Failures.{IfUnspelled-weaker, is_unspelled, is_fault}
use Rattle.walter_txcode.proofs.Joined.{no_number}
use Rattle.walter_packet.proofs.NoFields.{no_propagate, no_ack, no_dsmark, no_visible, no_prepare, no_vote, no_release, no_released, no_such_kind}
use Rattle.walter_packet.proofs.decoding.read_fields.Goals as goal

pub returns-in_err-seq-in-1-clause-fault : goal.returns-in_err-seq-in-1-clause-fault
returns-in_err-seq-in-1-clause-fault c =
    let exit = c.from_residual in
    let fault = c.in_err-seq-in-1 in
    is_fault _ exit.result fault.field-0.0 exit.ensures.1 (IfUnspelled-weaker fault.field-0.0 (no_propagate c.args.sites c.args.kind c.args.cursor.now.left c.in-1.is) fault.ensures.fault)

pub returns-in_err-got-in-2-clause-fault : goal.returns-in_err-got-in-2-clause-fault
returns-in_err-got-in-2-clause-fault c =
    let exit = c.from_residual-in_err-got-in-2 in
    is_unspelled exit.result exit.ensures.1 (no_ack c.args.sites c.args.kind c.args.cursor.now.left c.in-2.is (no_number (c.in_err-got-in-2.ensures.short.0 refl)))

pub returns-in_err-durable-in-3-clause-fault : goal.returns-in_err-durable-in-3-clause-fault
returns-in_err-durable-in-3-clause-fault c =
    let exit = c.from_residual-in_err-durable-in-3 in
    is_unspelled exit.result exit.ensures.1 (no_dsmark c.args.sites c.args.kind c.args.cursor.now.left c.in-3.is (no_number (c.in_err-durable-in-3.ensures.short.0 refl)))

pub returns-in_err-committed-in-4-clause-fault : goal.returns-in_err-committed-in-4-clause-fault
returns-in_err-committed-in-4-clause-fault c =
    let exit = c.from_residual-in_err-committed-in-4 in
    is_unspelled exit.result exit.ensures.1 (no_visible c.args.sites c.args.kind c.args.cursor.now.left c.in-4.is (no_number (c.in_err-committed-in-4.ensures.short.0 refl)))

pub returns-in_err-slow-in-5-clause-fault : goal.returns-in_err-slow-in-5-clause-fault
returns-in_err-slow-in-5-clause-fault c =
    let exit = c.from_residual-in_err-slow-in-5 in
    let fault = c.in_err-slow-in-5 in
    is_fault _ exit.result fault.field-0.0 exit.ensures.1 (IfUnspelled-weaker fault.field-0.0 (no_prepare c.args.sites c.args.kind c.args.cursor.now.left c.in-5.is) fault.ensures.fault)

pub returns-in_err-slow-in-6-clause-fault : goal.returns-in_err-slow-in-6-clause-fault
returns-in_err-slow-in-6-clause-fault c =
    let exit = c.from_residual-in_err-slow-in-6 in
    let fault = c.in_err-slow-in-6 in
    is_fault _ exit.result fault.field-0.0 exit.ensures.1 (IfUnspelled-weaker fault.field-0.0 (no_vote c.args.sites c.args.kind c.args.cursor.now.left c.in-6.is) fault.ensures.fault)

pub returns-in_err-slow-in-7-clause-fault : goal.returns-in_err-slow-in-7-clause-fault
returns-in_err-slow-in-7-clause-fault c =
    let exit = c.from_residual-in_err-slow-in-7 in
    is_unspelled exit.result exit.ensures.1 (no_release c.args.sites c.args.kind c.args.cursor.now.left c.in-7.is (no_number (c.in_err-slow-in-7.ensures.short.0 refl)))

pub returns-in_err-slow-in-8-clause-fault : goal.returns-in_err-slow-in-8-clause-fault
returns-in_err-slow-in-8-clause-fault c =
    let exit = c.from_residual-in_err-slow-in-8 in
    is_unspelled exit.result exit.ensures.1 (no_released c.args.sites c.args.kind c.args.cursor.now.left c.in-8.is (no_number (c.in_err-slow-in-8.ensures.short.0 refl)))

pub returns-in_default-clause-fault : goal.returns-in_default-clause-fault
returns-in_default-clause-fault c = no_such_kind c.args.sites c.args.kind c.args.cursor.now.left (λ known. omega (arith, known.0, known.1))
