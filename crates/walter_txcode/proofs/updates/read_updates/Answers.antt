use Rattle.std.proofs.Common.{refl, arith}
use Rattle.walter_txcode.proofs.Failures.{IfUnspelled-weaker, is_unspelled, is_fault, no_count, no_such_count, no_updates}
use Rattle.walter_txcode.proofs.updates.read_updates.Goals.{then-count-lt-FEWEST_UPDATES-via-then-count-lt-FEWEST_UPDATES, then-count-lt-FEWEST_UPDATES-via-else-count-lt-FEWEST_UPDATES+then-count-gt-MOST_UPDATES}
use Rattle.walter_txcode.proofs.updates.read_updates.Goals as goal

pub returns-in_err-count-clause-fault : goal.returns-in_err-count-clause-fault
returns-in_err-count-clause-fault c =
    is_unspelled c.from_residual.result c.from_residual.ensures.1 (λ us rest fits few. no_count c.args.cursor.now.left (c.in_err-count.ensures.short.0 refl) us rest)

pub returns-then-count-lt-FEWEST_UPDATES-clause-fault : goal.returns-then-count-lt-FEWEST_UPDATES-clause-fault
returns-then-count-lt-FEWEST_UPDATES-clause-fault c =
    no_such_count c.in_ok-count.count c.args.cursor.now.left c.u16.new.self.left (omega arith) c.in_ok-count.ensures.taken.front
    (λ some few. elim c.then-count-lt-FEWEST_UPDATES.branch [ then-count-lt-FEWEST_UPDATES-via-then-count-lt-FEWEST_UPDATES w ↦ omega arith | then-count-lt-FEWEST_UPDATES-via-else-count-lt-FEWEST_UPDATES+then-count-gt-MOST_UPDATES w ↦ omega arith ])

pub returns-in_err-read_each-clause-fault : goal.returns-in_err-read_each-clause-fault
returns-in_err-read_each-clause-fault c =
    let exit = c.from_residual-in_err-read_each in
    let fault = c.in_err-read_each in
    is_fault _ exit.result fault.field-0.0 exit.ensures.1
    (IfUnspelled-weaker fault.field-0.0 (no_updates c.in_ok-count.count c.args.cursor.now.left c.u16.new.self.left (omega arith) c.in_ok-count.ensures.taken.front) fault.ensures.fault)
