use Rattle.std.proofs.Common.{refl, arith}
use Rattle.walter_txcode.proofs.Failures.{IfUnspelled-weaker, is_unspelled, is_fault}
use Rattle.walter_txcode.proofs.Rising.{no_object_count, no_such_object_count, no_objects}
use Rattle.walter_txcode.proofs.objects.read_objects.Goals.{then-count-lt-FEWEST_OBJECTS-via-then-count-lt-FEWEST_OBJECTS, then-count-lt-FEWEST_OBJECTS-via-else-count-lt-FEWEST_OBJECTS+then-count-gt-MOST_OBJECTS}
use Rattle.walter_txcode.proofs.objects.read_objects.Goals as goal

pub returns-in_err-count-clause-fault : goal.returns-in_err-count-clause-fault
returns-in_err-count-clause-fault c =
    is_unspelled c.from_residual.result c.from_residual.ensures.1 (no_object_count c.args.cursor.now.left (c.in_err-count.ensures.short.0 refl))

pub returns-then-count-lt-FEWEST_OBJECTS-clause-fault : goal.returns-then-count-lt-FEWEST_OBJECTS-clause-fault
returns-then-count-lt-FEWEST_OBJECTS-clause-fault c =
    no_such_object_count c.in_ok-count.count c.args.cursor.now.left c.u16.new.self.left (omega arith) c.in_ok-count.ensures.taken.front
    (λ some few. elim c.then-count-lt-FEWEST_OBJECTS.branch [ then-count-lt-FEWEST_OBJECTS-via-then-count-lt-FEWEST_OBJECTS w ↦ omega arith | then-count-lt-FEWEST_OBJECTS-via-else-count-lt-FEWEST_OBJECTS+then-count-gt-MOST_OBJECTS w ↦ omega arith ])

pub returns-in_err-read_rising-clause-fault : goal.returns-in_err-read_rising-clause-fault
returns-in_err-read_rising-clause-fault c =
    let exit = c.from_residual-in_err-read_rising in
    let fault = c.in_err-read_rising in
    is_fault _ exit.result fault.field-0.0 exit.ensures.1
    (IfUnspelled-weaker fault.field-0.0 (no_objects c.in_ok-count.count c.args.cursor.now.left c.u16.new.self.left (omega arith) c.in_ok-count.ensures.taken.front) fault.ensures.fault)
