use Rattle.std.proofs.Common.{◌≡◌, ◌+◌, ◌*◌, ◌++◌, take}
use Rattle.std.specs.Prelude.{All, flat_map}
use Rattle.walter_names.specs.Names.{object_spelled, IsObject}
use Rattle.walter_txcode.proofs.objects.write_each.Given as goal

-- the objects so far were written
abbrev pub invariant-loop-oid : goal.invariant-loop-oid
invariant-loop-oid l = record {
  bytes : l.out.bytes ≡ l.fn.out.bytes ++ flat_map object_spelled (take l.oid-index l.objects);
  room : l.out.room + 12 * l.oid-index ≡ l.fn.out.room;
  ranges : All IsObject (take l.oid-index l.objects);
}
