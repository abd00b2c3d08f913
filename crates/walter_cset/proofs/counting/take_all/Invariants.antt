use Rattle.std.proofs.Common.{◌≡◌, ◌≤◌, ◌+◌, ℕ, All, take}
use Rattle.std.specs.Prelude.{◌+ℤ◌}
use Rattle.walter_base.specs.declared.names.ObjId.{ObjId}
use Rattle.walter_base.specs.Values.{count_of}
use Rattle.walter_cset.specs.Totals.{total_of, HasPlace}
use Rattle.walter_cset.proofs.counting.take_all.Given as goal

-- those so far were taken in, and there are places for all
abbrev pub invariant-loop-update : goal.invariant-loop-update
invariant-loop-update l = record {
  counts : (oid : ObjId) (id : ℕ) → total_of l.totals oid id ≡ total_of l.initial.totals oid id +ℤ count_of oid id (take l.update-index l.updates);
  places : All (HasPlace l.totals) l.updates;
  taken : l.totals.taken ≤ l.initial.totals.taken + l.update-index;
}
