use Rattle.std.proofs.Common.{refl, sym, ◌∙◌, arith}
use Rattle.walter_fields.specs.Spellings.{number_spelled}
use Rattle.walter_fields.proofs.Numbers.{length-number_spelled, same_number}
use Rattle.walter_txcode.proofs.Failures.{too_few, IfUnspelled-weaker, is_unspelled, is_fault}
use Rattle.walter_txcode.proofs.Joined.{no_number, no_version, none_short}
use Rattle.walter_record.proofs.Records.{IsEpoch}
use Rattle.walter_record.proofs.NoFields.{no_boot, no_own, no_got, no_seen, no_prepared, no_released, no_slow_begin, no_slow_end, no_marks, no_format, no_such_kind}
use Rattle.walter_record.proofs.decoding.read_fields.Goals as goal

pub returns-in_err-epoch-in-1-clause-fault : goal.returns-in_err-epoch-in-1-clause-fault
returns-in_err-epoch-in-1-clause-fault c =
    let exit = c.from_residual in
    is_unspelled exit.result exit.ensures.1 (no_boot c.args.format c.args.sites c.args.kind c.args.cursor.now.left c.in-1.is (none_short IsEpoch (number_spelled 4) 4 (λ n. length-number_spelled 4 n) (c.in_err-epoch-in-1.ensures.short.0 refl)))

pub returns-in_err-seq-in-2-clause-fault : goal.returns-in_err-seq-in-2-clause-fault
returns-in_err-seq-in-2-clause-fault c =
    let exit = c.from_residual-in_err-seq-in-2 in
    let fault = c.in_err-seq-in-2 in
    is_fault _ exit.result fault.field-0.0 exit.ensures.1 (IfUnspelled-weaker fault.field-0.0 (no_own c.args.format c.args.sites c.args.kind c.args.cursor.now.left c.in-2.is) fault.ensures.fault)

pub returns-in_err-version-in-3-clause-fault : goal.returns-in_err-version-in-3-clause-fault
returns-in_err-version-in-3-clause-fault c =
    let exit = c.from_residual-in_err-version-in-3 in
    let fault = c.in_err-version-in-3 in
    is_fault _ exit.result fault.field-0.0 exit.ensures.1 (IfUnspelled-weaker fault.field-0.0 (no_got c.args.format c.args.sites c.args.kind c.args.cursor.now.left c.in-3.is) fault.ensures.fault)

pub returns-in_err-version-in-4-clause-fault : goal.returns-in_err-version-in-4-clause-fault
returns-in_err-version-in-4-clause-fault c =
    let exit = c.from_residual-in_err-version-in-4 in
    is_unspelled exit.result exit.ensures.1 (no_seen c.args.format c.args.sites c.args.kind c.args.cursor.now.left c.in-4.is (no_version (c.in_err-version-in-4.ensures.short.0 refl)))

pub returns-in_err-slow-in-5-clause-fault : goal.returns-in_err-slow-in-5-clause-fault
returns-in_err-slow-in-5-clause-fault c =
    let exit = c.from_residual-in_err-slow-in-5 in
    let fault = c.in_err-slow-in-5 in
    is_fault _ exit.result fault.field-0.0 exit.ensures.1 (IfUnspelled-weaker fault.field-0.0 (no_prepared c.args.format c.args.sites c.args.kind c.args.cursor.now.left c.in-5.is) fault.ensures.fault)

pub returns-in_err-slow-in-6-clause-fault : goal.returns-in_err-slow-in-6-clause-fault
returns-in_err-slow-in-6-clause-fault c =
    let exit = c.from_residual-in_err-slow-in-6 in
    is_unspelled exit.result exit.ensures.1 (no_released c.args.format c.args.sites c.args.kind c.args.cursor.now.left c.in-6.is (no_version (c.in_err-slow-in-6.ensures.short.0 refl)))

pub returns-in_err-slow-in-7-clause-fault : goal.returns-in_err-slow-in-7-clause-fault
returns-in_err-slow-in-7-clause-fault c =
    let exit = c.from_residual-in_err-slow-in-7 in
    let fault = c.in_err-slow-in-7 in
    is_fault _ exit.result fault.field-0.0 exit.ensures.1 (IfUnspelled-weaker fault.field-0.0 (no_slow_begin c.args.format c.args.sites c.args.kind c.args.cursor.now.left c.in-7.is) fault.ensures.fault)

pub returns-in_err-slow-in-8-clause-fault : goal.returns-in_err-slow-in-8-clause-fault
returns-in_err-slow-in-8-clause-fault c =
    let exit = c.from_residual-in_err-slow-in-8 in
    is_unspelled exit.result exit.ensures.1 (no_slow_end c.args.format c.args.sites c.args.kind c.args.cursor.now.left c.in-8.is (no_number (c.in_err-slow-in-8.ensures.short.0 refl)))

pub returns-in_err-durable-in-9-clause-fault : goal.returns-in_err-durable-in-9-clause-fault
returns-in_err-durable-in-9-clause-fault c =
    let exit = c.from_residual-in_err-durable-in-9 in
    let fault = c.in_err-durable-in-9 in
    is_fault _ exit.result fault.field-0.0 exit.ensures.1 (IfUnspelled-weaker fault.field-0.0 (no_marks c.args.format c.args.sites c.args.kind c.args.cursor.now.left c.in-9.is) fault.ensures.fault)

pub returns-in_err-format-in-10-clause-fault : goal.returns-in_err-format-in-10-clause-fault
returns-in_err-format-in-10-clause-fault c =
    let exit = c.from_residual-in_err-format-in-10 in
    is_unspelled exit.result exit.ensures.1 (no_format c.args.format c.args.sites c.args.kind c.args.cursor.now.left c.in-10.is
    (λ rest. too_few 1 c.args.cursor.now.left (number_spelled 1 2) rest (length-number_spelled 1 2) (c.in_err-format-in-10.ensures.short.0 refl)))

pub returns-then-format-ne2-clause-fault : goal.returns-then-format-ne2-clause-fault
returns-then-format-ne2-clause-fault c =
    no_format c.args.format c.args.sites c.args.kind c.args.cursor.now.left c.in-10.is
    (λ rest e. c.if-format-ne2.true (same_number 1 c.in_ok-format-in-10.format 2 c.u8.new.self.left rest (omega arith) (omega arith) (sym c.in_ok-format-in-10.ensures.taken.front ∙ e)).0)

pub returns-in_default-clause-fault : goal.returns-in_default-clause-fault
returns-in_default-clause-fault c = no_such_kind c.args.format c.args.sites c.args.kind c.args.cursor.now.left (λ known. omega (arith, known.0, known.1))
