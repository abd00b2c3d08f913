use Rattle.std.proofs.Common.{◌≡◌, length}
use Rattle.walter_base.specs.Values.{value_of}
use Rattle.walter_history.specs.Rows.{AreOf, seen_updates}
use Rattle.walter_history.proofs.rows.last_seen.Given as goal

abbrev pub invariant-loop-row : goal.invariant-loop-row
invariant-loop-row l = record {
  same : value_of l.fn.oid (seen_updates l.by l.rest) ≡ value_of l.fn.oid (seen_updates l.by l.fn.rows);
  own : AreOf l.fn.oid l.rest;
}

abbrev pub decreases-loop-row : goal.decreases-loop-row
decreases-loop-row l = length l.rest
