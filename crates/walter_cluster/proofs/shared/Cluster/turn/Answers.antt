use Rattle.std.proofs.Common.{◌<◌, length, arith, refl}
use Rattle.std.proofs.lemmas.Option.{slice_get_read}
use Rattle.walter_cluster.proofs.Sharing.{here_at_home, is_there}
use Rattle.walter_cluster.proofs.shared.Cluster.turn.Goals as goal

pub turn_at-requires : goal.turn_at-requires
turn_at-requires g c =
    let homes = c.self.inside.homes.items in
    let number : c.args.client < length homes = rw (← c.self.view_is) at c.requires in
    let home = c.index.result.now in
    let at = slice_get_read homes (length homes) c.args.client home refl number c.index.ensures in
    let origins = g.N.Name.origins in (
      omega arith,
      (
        is_there origins homes c.args.client 0 home c.self.invariant.0 at c.in-0.is _ c.self.invariant.1,
        here_at_home origins homes c.args.client 0 home c.self.invariant.0 at c.in-0.is,
      ),
    )

pub turn_at-requires-in-1 : goal.turn_at-requires-in-1
turn_at-requires-in-1 g c =
    let homes = c.self.inside.homes.items in
    let number : c.args.client < length homes = rw (← c.self.view_is) at c.requires in
    let home = c.index.result.now in
    let at = slice_get_read homes (length homes) c.args.client home refl number c.index.ensures in
    let origins = g.N.Name.origins in (
      omega arith,
      (
        is_there origins homes c.args.client 1 home c.self.invariant.0 at c.in-1.is _ c.self.invariant.2,
        here_at_home origins homes c.args.client 1 home c.self.invariant.0 at c.in-1.is,
      ),
    )

pub turn_at-requires-in-2 : goal.turn_at-requires-in-2
turn_at-requires-in-2 g c =
    let homes = c.self.inside.homes.items in
    let number : c.args.client < length homes = rw (← c.self.view_is) at c.requires in
    let home = c.index.result.now in
    let at = slice_get_read homes (length homes) c.args.client home refl number c.index.ensures in
    let origins = g.N.Name.origins in (
      omega arith,
      (
        is_there origins homes c.args.client 2 home c.self.invariant.0 at c.in-2.is _ c.self.invariant.3,
        here_at_home origins homes c.args.client 2 home c.self.invariant.0 at c.in-2.is,
      ),
    )

pub turn_at-requires-in-3 : goal.turn_at-requires-in-3
turn_at-requires-in-3 g c =
    let homes = c.self.inside.homes.items in
    let number : c.args.client < length homes = rw (← c.self.view_is) at c.requires in
    let home = c.index.result.now in
    let at = slice_get_read homes (length homes) c.args.client home refl number c.index.ensures in
    let origins = g.N.Name.origins in (
      omega arith,
      (
        is_there origins homes c.args.client 3 home c.self.invariant.0 at c.in-3.is _ c.self.invariant.4,
        here_at_home origins homes c.args.client 3 home c.self.invariant.0 at c.in-3.is,
      ),
    )

pub turn_at-requires-in-4 : goal.turn_at-requires-in-4
turn_at-requires-in-4 g c =
    let homes = c.self.inside.homes.items in
    let number : c.args.client < length homes = rw (← c.self.view_is) at c.requires in
    let home = c.index.result.now in
    let at = slice_get_read homes (length homes) c.args.client home refl number c.index.ensures in
    let origins = g.N.Name.origins in (
      omega arith,
      (
        is_there origins homes c.args.client 4 home c.self.invariant.0 at c.in-4.is _ c.self.invariant.5,
        here_at_home origins homes c.args.client 4 home c.self.invariant.0 at c.in-4.is,
      ),
    )

pub turn_at-requires-in-5 : goal.turn_at-requires-in-5
turn_at-requires-in-5 g c =
    let homes = c.self.inside.homes.items in
    let number : c.args.client < length homes = rw (← c.self.view_is) at c.requires in
    let home = c.index.result.now in
    let at = slice_get_read homes (length homes) c.args.client home refl number c.index.ensures in
    let origins = g.N.Name.origins in (
      omega arith,
      (
        is_there origins homes c.args.client 5 home c.self.invariant.0 at c.in-5.is _ c.self.invariant.6,
        here_at_home origins homes c.args.client 5 home c.self.invariant.0 at c.in-5.is,
      ),
    )

pub turn_at-requires-in-6 : goal.turn_at-requires-in-6
turn_at-requires-in-6 g c =
    let homes = c.self.inside.homes.items in
    let number : c.args.client < length homes = rw (← c.self.view_is) at c.requires in
    let home = c.index.result.now in
    let at = slice_get_read homes (length homes) c.args.client home refl number c.index.ensures in
    let origins = g.N.Name.origins in (
      omega arith,
      (
        is_there origins homes c.args.client 6 home c.self.invariant.0 at c.in-6.is _ c.self.invariant.7,
        here_at_home origins homes c.args.client 6 home c.self.invariant.0 at c.in-6.is,
      ),
    )

pub turn_at-requires-in-7 : goal.turn_at-requires-in-7
turn_at-requires-in-7 g c =
    let homes = c.self.inside.homes.items in
    let number : c.args.client < length homes = rw (← c.self.view_is) at c.requires in
    let home = c.index.result.now in
    let at = slice_get_read homes (length homes) c.args.client home refl number c.index.ensures in
    let origins = g.N.Name.origins in (
      omega arith,
      (
        is_there origins homes c.args.client 7 home c.self.invariant.0 at c.in-7.is _ c.self.invariant.8,
        here_at_home origins homes c.args.client 7 home c.self.invariant.0 at c.in-7.is,
      ),
    )

pub turn_at-requires-in-8 : goal.turn_at-requires-in-8
turn_at-requires-in-8 g c =
    let homes = c.self.inside.homes.items in
    let number : c.args.client < length homes = rw (← c.self.view_is) at c.requires in
    let home = c.index.result.now in
    let at = slice_get_read homes (length homes) c.args.client home refl number c.index.ensures in
    let origins = g.N.Name.origins in (
      omega arith,
      (
        is_there origins homes c.args.client 8 home c.self.invariant.0 at c.in-8.is _ c.self.invariant.9,
        here_at_home origins homes c.args.client 8 home c.self.invariant.0 at c.in-8.is,
      ),
    )

pub turn_at-requires-in-9 : goal.turn_at-requires-in-9
turn_at-requires-in-9 g c =
    let homes = c.self.inside.homes.items in
    let number : c.args.client < length homes = rw (← c.self.view_is) at c.requires in
    let home = c.index.result.now in
    let at = slice_get_read homes (length homes) c.args.client home refl number c.index.ensures in
    let origins = g.N.Name.origins in (
      omega arith,
      (
        is_there origins homes c.args.client 9 home c.self.invariant.0 at c.in-9.is _ c.self.invariant.10,
        here_at_home origins homes c.args.client 9 home c.self.invariant.0 at c.in-9.is,
      ),
    )

pub turn_at-requires-in-10 : goal.turn_at-requires-in-10
turn_at-requires-in-10 g c =
    let homes = c.self.inside.homes.items in
    let number : c.args.client < length homes = rw (← c.self.view_is) at c.requires in
    let home = c.index.result.now in
    let at = slice_get_read homes (length homes) c.args.client home refl number c.index.ensures in
    let origins = g.N.Name.origins in (
      omega arith,
      (
        is_there origins homes c.args.client 10 home c.self.invariant.0 at c.in-10.is _ c.self.invariant.11,
        here_at_home origins homes c.args.client 10 home c.self.invariant.0 at c.in-10.is,
      ),
    )

pub turn_at-requires-in-11 : goal.turn_at-requires-in-11
turn_at-requires-in-11 g c =
    let homes = c.self.inside.homes.items in
    let number : c.args.client < length homes = rw (← c.self.view_is) at c.requires in
    let home = c.index.result.now in
    let at = slice_get_read homes (length homes) c.args.client home refl number c.index.ensures in
    let origins = g.N.Name.origins in (
      omega arith,
      (
        is_there origins homes c.args.client 11 home c.self.invariant.0 at c.in-11.is _ c.self.invariant.12,
        here_at_home origins homes c.args.client 11 home c.self.invariant.0 at c.in-11.is,
      ),
    )

pub turn_at-requires-in-12 : goal.turn_at-requires-in-12
turn_at-requires-in-12 g c =
    let homes = c.self.inside.homes.items in
    let number : c.args.client < length homes = rw (← c.self.view_is) at c.requires in
    let home = c.index.result.now in
    let at = slice_get_read homes (length homes) c.args.client home refl number c.index.ensures in
    let origins = g.N.Name.origins in (
      omega arith,
      (
        is_there origins homes c.args.client 12 home c.self.invariant.0 at c.in-12.is _ c.self.invariant.13,
        here_at_home origins homes c.args.client 12 home c.self.invariant.0 at c.in-12.is,
      ),
    )

pub turn_at-requires-in-13 : goal.turn_at-requires-in-13
turn_at-requires-in-13 g c =
    let homes = c.self.inside.homes.items in
    let number : c.args.client < length homes = rw (← c.self.view_is) at c.requires in
    let home = c.index.result.now in
    let at = slice_get_read homes (length homes) c.args.client home refl number c.index.ensures in
    let origins = g.N.Name.origins in (
      omega arith,
      (
        is_there origins homes c.args.client 13 home c.self.invariant.0 at c.in-13.is _ c.self.invariant.14,
        here_at_home origins homes c.args.client 13 home c.self.invariant.0 at c.in-13.is,
      ),
    )

pub turn_at-requires-in-14 : goal.turn_at-requires-in-14
turn_at-requires-in-14 g c =
    let homes = c.self.inside.homes.items in
    let number : c.args.client < length homes = rw (← c.self.view_is) at c.requires in
    let home = c.index.result.now in
    let at = slice_get_read homes (length homes) c.args.client home refl number c.index.ensures in
    let origins = g.N.Name.origins in (
      omega arith,
      (
        is_there origins homes c.args.client 14 home c.self.invariant.0 at c.in-14.is _ c.self.invariant.15,
        here_at_home origins homes c.args.client 14 home c.self.invariant.0 at c.in-14.is,
      ),
    )

pub turn_at-requires-in-15 : goal.turn_at-requires-in-15
turn_at-requires-in-15 g c =
    let homes = c.self.inside.homes.items in
    let number : c.args.client < length homes = rw (← c.self.view_is) at c.requires in
    let home = c.index.result.now in
    let at = slice_get_read homes (length homes) c.args.client home refl number c.index.ensures in
    let origins = g.N.Name.origins in (
      omega arith,
      (
        is_there origins homes c.args.client 15 home c.self.invariant.0 at c.in-15.is _ c.self.invariant.16,
        here_at_home origins homes c.args.client 15 home c.self.invariant.0 at c.in-15.is,
      ),
    )
