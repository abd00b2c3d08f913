use Rattle.std.proofs.Common.{◌≡◌, ℕ, All, take}
use Rattle.walter_base.specs.declared.names.ObjId.{ObjId}
use Rattle.walter_cset.specs.Totals.{total_of, HasPlace}
use Rattle.walter_cset.proofs.counting.open_all.Given as goal

-- those so far have places
abbrev pub invariant-loop-update : goal.invariant-loop-update
invariant-loop-update l = record {
  places : All (HasPlace l.totals) (take l.update-index l.updates);
  same : (oid : ObjId) (id : ℕ) → total_of l.totals oid id ≡ total_of l.initial.totals oid id;
  taken : l.totals.taken ≡ l.initial.totals.taken;
}
