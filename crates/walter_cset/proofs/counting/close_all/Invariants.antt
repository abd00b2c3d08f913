use Rattle.std.proofs.Common.{◌≡◌, ℕ}
use Rattle.walter_base.specs.declared.names.ObjId.{ObjId}
use Rattle.walter_cset.specs.Totals.{total_of}
use Rattle.walter_cset.proofs.counting.close_all.Given as goal

abbrev pub invariant-loop-update : goal.invariant-loop-update
invariant-loop-update l = (oid : ObjId) (id : ℕ) → total_of l.totals oid id ≡ total_of l.initial.totals oid id
