use Rattle.std.proofs.Common.{◌≤◌, ◌^◌, length, arith}
use Rattle.std.proofs.lemmas.Int.{ints}
use Rattle.walter_history.proofs.Standing.{count-append}
use Rattle.walter_history.specs.Lines.{kept_of}
use Rattle.walter_rows.specs.Rows.{rows_in, seen_in}
use Rattle.walter_rows.proofs.ReadRows.{count_held}
use Rattle.walter_rows.proofs.reading.count_read.Goals as goal

pub returns : goal.returns
returns c = λ catalog log are told.
    let oid = c.args.oid in
    let id = c.args.id in
    let from = c.args.committed.now in
    let to = c.args.snapshot.now in
    let own = c.args.updates.now in
    let total = c.total-count.ensures in
    let seen = c.count_between-seen.ensures.rows c.args.history.now.floor (kept_of c.args.history.now oid) (rows_in oid log) (are.stand oid)
    c.steps_between-steps.ensures c.requires.committed c.requires.snapshot
    (omega (arith, ints, total.total, total.within.0, total.within.1, told oid id, count_held from oid id log)) in
    let held = count_held to oid id log in
    let whole = count-append oid id (seen_in to log) own in
    let few : length c.steps_between-steps.result.now ≤ 2 ^ 61 = omega arith in
    omega (arith, ints, few, seen, held, whole, c.count.ensures, c.count_between-seen.ensures.low, c.count_between-seen.ensures.high, total.within.0, total.within.1)

pub count-requires-clause-modest : goal.count-requires-clause-modest
count-requires-clause-modest c =
    let few : length c.steps_between-steps.result.now ≤ 2 ^ 61 = omega arith in
    let seen = c.count_between-seen.ensures in
    let within = c.total-count.ensures.within in
    (omega (arith, ints, few, seen.low, within.0, within.1), omega (arith, ints, few, seen.high, within.0, within.1))
