use Rattle.std.proofs.Common.{sym, subst, arith}
use Rattle.walter_base.specs.declared.catalog.Catalog.{Catalog}
use Rattle.walter_world.specs.Worlds.{IsWorld, KeepPromises, trails_of}
use Rattle.walter_world.proofs.Growing.{promises}
use Rattle.walter_world.proofs.Opened.{are_openings, new_world}
use Rattle.walter_world.proofs.world.World.new.Goals as goal

pub invariant_of-result : goal.invariant_of-result
invariant_of-result c =
    let catalog = c.args.catalog.now in
    let seats = c.in_ok-seats_of.field-0.items in
    let opened = c.in_ok-seats_of.ensures in
    let room = c.in_ok-with_capacity.ensures.capacity in
    let sites = c.from.ensures in
    let one_each = opened.one_each in (
      subst (λ (k : Catalog). IsWorld c.args.format k seats) (sym c.in_ok-clone.ensures.cases)
          (new_world c.args.format catalog seats c.requires.whole c.requires.most c.requires.fewer opened),
      c.in_ok-with_capacity.ensures.items,
      omega (arith, room, sites, one_each),
    )

pub returns-clause-openings : goal.returns-clause-openings
returns-clause-openings c =
    are_openings c.args.format c.args.catalog.now c.in_ok-seats_of.field-0.items c.in_ok-seats_of.ensures

pub returns-clause-promises : goal.returns-clause-promises
returns-clause-promises c =
    let catalog = c.args.catalog.now in
    let seats = c.in_ok-seats_of.field-0.items in
    let world = new_world c.args.format catalog seats c.requires.whole c.requires.most c.requires.fewer
    c.in_ok-seats_of.ensures in
    subst (λ (k : Catalog). KeepPromises c.args.format k (trails_of seats)) (sym c.in_ok-clone.ensures.cases)
    (promises c.args.format catalog (trails_of seats) c.requires.whole world.right)
