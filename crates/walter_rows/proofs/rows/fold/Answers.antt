use Rattle.std.proofs.Common.{sym, subst}
use Rattle.walter_history.specs.Kept.{StandsForRows}
use Rattle.walter_history.specs.Lines.{kept_of}
use Rattle.walter_rows.specs.Rows.{rows_in}
use Rattle.walter_rows.proofs.rows.fold.Goals as goal

pub returns-clause-rows : goal.returns-clause-rows
returns-clause-rows c = λ catalog log are. record {
  stand = λ oid.
      subst (λ fl. StandsForRows oid fl (kept_of c.fold.new.self oid) (rows_in oid log)) (sym c.fold.ensures.floor) (c.fold.ensures.stands oid (rows_in oid log) (are.stand oid));
  declared = are.declared;
}
