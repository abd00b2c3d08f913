use Rattle.std.proofs.Common.{sym, subst, refl}
use Rattle.walter_machine.proofs.Standings.{overflow_filled}
use Rattle.walter_machine.proofs.Standing.{only_made, overflow_comes, filled_standing}
use Rattle.walter_machine.specs.Readiness.{step_in}
use Rattle.walter_rules.specs.declared.entry.Came.{Came}
use Rattle.walter_rules.specs.Trails.{Comes, fullness}
use Rattle.walter_machine.proofs.machine.Machine.overflow.Goals as goal

pub returns-clause-came : goal.returns-clause-came
returns-clause-came c =
    only_made c.args.came.now c.fullness.result (fullness c.args.event.now c.args.need c.args.left) c.requires.alone c.fullness.ensures

pub returns-clause-comes : goal.returns-clause-comes
returns-clause-comes c = λ layout S ready much.
    let m = c.args.self.now in
    subst (λ (x : Came). Comes m.catalog layout m.id S c.args.event.now x) (sym (returns-clause-came c))
    (overflow_comes m.catalog layout m.id m.site S c.args.event.now c.args.ready.now c.args.need c.args.left ready c.requires.flies much)

pub returns-clause-stands : goal.returns-clause-stands
returns-clause-stands c = λ header S has ready.
    let m = c.args.self.now in
    filled_standing m _ S c.args.event.now _ c.args.need c.args.left (returns-clause-came c) has
    (overflow_filled m.catalog m.id m.site S c.args.event.now (step_in c.args.ready.now) c.args.need c.args.left has.state ready.step c.requires.flies has.told)
    refl refl refl c.none.ensures refl refl refl
