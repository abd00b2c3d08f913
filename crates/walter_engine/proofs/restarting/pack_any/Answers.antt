use Rattle.std.proofs.Common.{map}
use Rattle.walter_engine.proofs.Crashes.{unmoved}
use Rattle.walter_engine.proofs.Packed.{packed_is}
use Rattle.walter_engine.proofs.restarting.pack_any.Goals as goal

pub returns-then-is_empty-clause-any_moment : goal.returns-then-is_empty-clause-any_moment
returns-then-is_empty-clause-any_moment g c = λ stands.
    unmoved {g = g.D.Disk} g.met.D.Disk.only_now c.args.book.now (map (λ body. body.items) c.args.bodies.now) stands _
    (λ image has. has)

pub returns-clause-packed : goal.returns-clause-packed
returns-clause-packed g c =
    let bodies = map (λ body. body.items) c.args.bodies.now in
    packed_is {g = g.D.Disk} c.pack.result c.args.book.now c.pack.new.self bodies c.requires.goes_on c.pack.ensures.shape
    c.pack.ensures.live (c.pack.ensures.goes_on bodies c.requires.ready)
    (λ stands. c.pack.ensures.stands bodies stands c.requires.ready) c.pack.ensures.room c.pack.ensures.faultless
