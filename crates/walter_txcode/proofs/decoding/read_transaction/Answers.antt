use Rattle.std.proofs.Common.{sym, subst, arith}
use Rattle.walter_base.specs.declared.transaction.Tx.{Tx}
use Rattle.walter_txcode.specs.Spelling.{head_spelled, updates_spelled, HasSpelling}
use Rattle.walter_txcode.proofs.Failures.{IfUnspelled-weaker, is_fault, Begins, IsRead, moved, no_head, no_transaction, too_long, is_transaction}
use Rattle.walter_txcode.proofs.decoding.read_transaction.Goals as goal

pub returns-in_err-tid-clause-fault : goal.returns-in_err-tid-clause-fault
returns-in_err-tid-clause-fault c =
    let fault = c.in_err-tid in
    is_fault _ c.from_residual.result fault.field-0.0 c.from_residual.ensures.1 (IfUnspelled-weaker fault.field-0.0 (no_head c.args.format c.args.sites c.args.cursor.now.left) fault.ensures.fault)

pub returns-in_err-updates-clause-fault : goal.returns-in_err-updates-clause-fault
returns-in_err-updates-clause-fault c =
    let head = c.in_ok-tid in
    let begins : Begins c.args.format c.args.sites head.tid head.slow head.start c.args.cursor.now.left c.read_head.new.cursor.left = record {
      head = record { counted = head.ensures.counted; name = head.ensures.tid; number = head.ensures.slow; numbers = head.ensures.start };
      front = head.ensures.taken.front;
    } in
    let exit = c.from_residual-in_err-updates in
    let fault = c.in_err-updates in
    is_fault _ exit.result fault.field-0.0 exit.ensures.1
    (IfUnspelled-weaker fault.field-0.0 (no_transaction c.args.format c.args.sites head.tid head.slow head.start c.args.cursor.now.left c.read_head.new.cursor.left begins) fault.ensures.fault)

pub overflow_sub-length : goal.overflow_sub-length
overflow_sub-length c =
    let head = c.in_ok-tid in
    let found = c.in_ok-updates in
    let bytes = moved c.args.cursor.now c.read_head.new.cursor c.read_updates.new.cursor (head_spelled c.args.format head.tid head.slow head.start) (updates_spelled found.updates) c.place-from.result c.place.result
    head.ensures.taken found.ensures.taken c.place-from.ensures c.place.ensures in
    omega (arith, bytes)

pub returns-then-length-longest-clause-fault : goal.returns-then-length-longest-clause-fault
returns-then-length-longest-clause-fault c =
    let sites = c.args.sites in
    let head = c.in_ok-tid in
    let found = c.in_ok-updates in
    let left = c.args.cursor.now.left in
    let mid = c.read_head.new.cursor.left in
    let after = c.read_updates.new.cursor.left in
    let tx : Tx = record { tid = head.tid; slow = head.slow; start = head.start; updates = found.updates } in
    let read : IsRead c.args.format sites tx left mid after c.place-from.result c.place.result = record {
      small = c.requires;
      begins = record { head = record { counted = head.ensures.counted; name = head.ensures.tid; number = head.ensures.slow; numbers = head.ensures.start }; front = head.ensures.taken.front };
      front = found.ensures.taken.front;
      ranges = found.ensures.range;
      few = found.ensures.few;
      bytes = moved c.args.cursor.now c.read_head.new.cursor c.read_updates.new.cursor (head_spelled c.args.format head.tid head.slow head.start) (updates_spelled found.updates) c.place-from.result c.place.result
          head.ensures.taken found.ensures.taken c.place-from.ensures c.place.ensures;
    } in
    too_long c.args.format sites tx left mid after c.place-from.result c.place.result read (omega (arith, c.if-length-longest.true, c.longest.ensures))

pub returns-clause-spelled : goal.returns-clause-spelled
returns-clause-spelled c =
    let sites = c.args.sites in
    let head = c.in_ok-tid in
    let found = c.in_ok-updates in
    let left = c.args.cursor.now.left in
    let mid = c.read_head.new.cursor.left in
    let after = c.read_updates.new.cursor.left in
    let tx : Tx = record { tid = head.tid; slow = head.slow; start = head.start; updates = found.updates } in
    let read : IsRead c.args.format sites tx left mid after c.place-from.result c.place.result = record {
      small = c.requires;
      begins = record { head = record { counted = head.ensures.counted; name = head.ensures.tid; number = head.ensures.slow; numbers = head.ensures.start }; front = head.ensures.taken.front };
      front = found.ensures.taken.front;
      ranges = found.ensures.range;
      few = found.ensures.few;
      bytes = moved c.args.cursor.now c.read_head.new.cursor c.read_updates.new.cursor (head_spelled c.args.format head.tid head.slow head.start) (updates_spelled found.updates) c.place-from.result c.place.result
          head.ensures.taken found.ensures.taken c.place-from.ensures c.place.ensures;
    } in
    subst (λ start. HasSpelling c.args.format sites (record tx { start = start })) (sym c.in_ok-new.ensures)
    (is_transaction c.args.format sites tx left mid after c.place-from.result c.place.result read (omega (arith, c.if-length-longest.false, c.longest.ensures)))
