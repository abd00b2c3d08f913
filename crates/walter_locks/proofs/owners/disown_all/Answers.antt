use Rattle.std.proofs.Common.{◌<◌, length, None, arith}
use Rattle.std.specs.Map.{lookup}
use Rattle.walter_base.specs.Names.{same_object}
use Rattle.walter_locks.proofs.Leaving.{one_more_lock}
use Rattle.walter_locks.proofs.owners.disown_all.Goals as goal

pub loop-place-preserved : goal.loop-place-preserved
loop-place-preserved c =
    let es = c.args.locks.now.entries in
    let before = c.loop-place.invariant in
    let place = c.loop-place.place in
    let within : place < length es = omega (arith, c.loop-place-test.true, c.len-place-end.ensures.len) in
    record {
      owners = λ o. one_more_lock c.args.coordinator es place o None (lookup (same_object o) c.args.owners.now.entries) _ _ within (c.disown_at.ensures.owners o) (before.owners o);
      room = omega (arith, before.room, c.disown_at.ensures.room);
    }
