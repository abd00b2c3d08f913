use Rattle.std.proofs.Common.{◌≢◌, get_or, take, arith}
use Rattle.std.proofs.lemmas.List.{length-take}
use Rattle.walter_journal.proofs.Layouts.{behind_to}
use Rattle.walter_journal.proofs.layout.bodies_behind.Goals as goal
use Rattle.walter_journal.proofs.layout.bodies_behind.Goals.{in_default, in_default-2}

pub returns-clause-ok : goal.returns-clause-ok
returns-clause-ok c =
    let closed : get_or c.loop-rest.rest.now 0 0 ≢ 1 = λ e. elim c.if-rest-lt1.branch [ in_default w ↦ omega arith | in_default-2 w ↦ omega arith ] in
    let found = behind_to (take c.args.from c.args.bytes.now) c.args.bytes.now c.loop-rest.rest.now c.loop-rest.bodies c.loop-rest.invariant.read c.loop-rest.invariant.fit c.loop-rest.invariant.more closed in
    (found.0, omega (arith, found.1, length-take c.args.from c.args.bytes.now, c.requires))
