use Rattle.std.proofs.Common.{List, [], ◌∷◌, ◌++◌, Vec, Global, ap, ◌∙◌}
use Rattle.walter_machine.specs.Machines.{catalog_in, site_in}
use Rattle.walter_rules.specs.declared.entry.Entry.{Entry}
use Rattle.walter_world.proofs.Seated.{can_still, seat_more}
use Rattle.walter_world.proofs.seat.Seat.take.Goals as goal

pub came_of-requires : goal.came_of-requires
came_of-requires c =
    let m = c.args.self.now.machine in
    can_still (catalog_in m) (site_in m) m c.args.self.now.entries c.reserve.new.self c.args.event c.args.keeps
    c.in_ok-reserve.ensures.items c.requires

pub returns-clause-seat : goal.returns-clause-seat
returns-clause-seat c =
    let m = c.args.self.now.machine in
    let can = can_still (catalog_in m) (site_in m) m c.args.self.now.entries c.reserve.new.self c.args.event c.args.keeps
    c.in_ok-reserve.ensures.items c.requires in
    let e : Entry = record { stamp = c.args.stamp; event = c.args.event; came = c.in_ok-came.came } in
    seat_more c.args.format (catalog_in m) (site_in m) (record { machine = m; entries = c.reserve.new.self })
    (record { machine = c.came_of.new.self.machine; entries = c.push_reserved.new.self }) e c.args.keeps c.args.fate can.seat_is
    c.in_ok-came.ensures.comes
    (c.push_reserved.ensures.items
    ∙ ap (λ (t : List Entry). t ++ e ∷ []) (ap (λ (v : Vec Entry Global). v.items) c.in_ok-came.ensures.entries))
