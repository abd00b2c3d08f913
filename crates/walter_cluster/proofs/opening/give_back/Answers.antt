use Rattle.std.proofs.Common.{◌++◌, ◌∷◌, [], length, ap, arith, length-append}
use Rattle.walter_cluster.proofs.Places.{map_lengths}
use Rattle.walter_cluster.proofs.opening.give_back.Goals as goal

pub push_reserved-requires : goal.push_reserved-requires
push_reserved-requires g c =
    let long = map_lengths _ _ _ c.take_disks.new.back.items c.args.back.items c.args.cells.items c.take_disks.ensures.disks in
    omega (arith, long, ap length c.requires.none, c.requires.room, c.take_disks.ensures.room, c.take_disks.new.back.ok.0)

pub push_all-requires : goal.push_all-requires
push_all-requires g c =
    let long = map_lengths _ _ _ c.take_disks.new.back.items c.args.back.items c.args.cells.items c.take_disks.ensures.disks in
    omega (arith, long, ap length c.requires.none, c.requires.room, c.take_disks.ensures.room, ap length {x = c.push_reserved.new.self.items} {y = c.take_disks.new.back.items ++ c.args.disk ∷ []} c.push_reserved.ensures.items, length-append c.take_disks.new.back.items (c.args.disk ∷ []), c.push_reserved.ensures.capacity)
