use Rattle.std.proofs.Common.{◌∙◌}
use Rattle.walter_rows.specs.Rows.{rows_in}
use Rattle.walter_rows.proofs.ReadRows.{value_read_is}
use Rattle.walter_rows.proofs.reading.value_read.Goals as goal

pub returns : goal.returns
returns c = λ catalog log are.
    c.value.ensures
    ∙ value_read_is c.args.snapshot.now c.args.oid log c.args.updates.now _ (c.latest-seen.ensures.rows (rows_in c.args.oid log) (are.stand c.args.oid))
