use Rattle.std.proofs.Common.{◌<◌, ◌+◌, ◌^◌, length, take, arith}
use Rattle.walter_checkpoint.specs.Faults.{HasNoEntries}
use Rattle.walter_checkpoint.specs.Packs.{HasEntries}
use Rattle.walter_checkpoint.proofs.Spelled.{pack_read, no_pack}
use Rattle.walter_checkpoint.proofs.unpacking.read_pack.Goals as goal

pub returns-in-Some-2-clause-some : goal.returns-in-Some-2-clause-some
returns-in-Some-2-clause-some c =
    let has : HasEntries c.args.sites (take (c.read_u64-length.result + 1) c.in-Some.rest.now) c.in-Some-2.bodies = rw c.in-Some-2.is at c.in_ok-bodies.ensures.some in
    pack_read c.args.sites c.read_u64-length.result c.args.area.now c.in-Some.front.now c.in-Some.rest.now c.in-Some.ensures.cases c.read_u64-length.ensures c.if-rest-length.false c.in-Some-2.bodies (λ i. omega (arith, c.type_inv.area i)) (omega arith) has

pub returns-in-None-clause-none : goal.returns-in-None-clause-none
returns-in-None-clause-none c =
    let none : HasNoEntries c.args.sites (take (c.read_u64-length.result + 1) c.in-Some.rest.now) = rw c.in-None.is at c.in_ok-bodies.ensures.none in
    let small : length c.args.area.now < 2 ^ 64 = omega arith in
    no_pack c.args.sites c.read_u64-length.result c.args.area.now c.in-Some.front.now c.in-Some.rest.now c.in-Some.ensures.cases c.read_u64-length.ensures c.if-rest-length.false small none
