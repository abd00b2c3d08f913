use Rattle.std.proofs.Common.{sym, subst}
use Rattle.walter_machine.specs.Machines.{HasStanding}
use Rattle.walter_machine.proofs.Standing.{only_made, want_standing, want_comes}
use Rattle.walter_rules.specs.declared.entry.Came.{Came}
use Rattle.walter_rules.specs.Standing.{stands_after}
use Rattle.walter_rules.specs.Trails.{Comes, want}
use Rattle.walter_machine.proofs.machine.Machine.want.Goals as goal

pub returns-clause-came : goal.returns-clause-came
returns-clause-came c = only_made c.args.came.now c.want.result (want c.args.event.now) c.requires.alone c.want.ensures

pub returns-clause-comes : goal.returns-clause-comes
returns-clause-comes c = λ layout S takes.
    let m = c.args.self.now in
    subst (λ (x : Came). Comes m.catalog layout m.id S c.args.event.now x) (sym (returns-clause-came c))
    (want_comes m.catalog layout m.id S c.args.event.now takes)

pub returns-clause-stands : goal.returns-clause-stands
returns-clause-stands c = λ S has takes.
    let m = c.args.self.now in
    subst (λ (x : Came). HasStanding m (stands_after m.catalog m.id S c.args.event.now x)) (sym (returns-clause-came c))
    (want_standing m S has c.args.event.now)
