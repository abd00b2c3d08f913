use Rattle.std.proofs.Common.{refl, sym, subst}
use Rattle.walter_machine.specs.Machines.{HasStanding}
use Rattle.walter_machine.proofs.Standing.{only_made, rest_standing}
use Rattle.walter_rules.specs.declared.entry.Came.{Came}
use Rattle.walter_rules.specs.declared.event.Event.TheVariants.{Restart}
use Rattle.walter_rules.specs.Standing.{stands_after}
use Rattle.walter_machine.proofs.machine.Machine.rest.Goals as goal

pub returns-clause-came : goal.returns-clause-came
returns-clause-came c = only_made c.args.came.now c.args.outcome c.args.outcome c.requires.alone refl

pub returns-clause-stands : goal.returns-clause-stands
returns-clause-stands c = λ S has down.
    let m = c.args.self.now in
    subst (λ (x : Came). HasStanding m (stands_after m.catalog m.id S Restart x)) (sym (returns-clause-came c))
    (rest_standing m S has down c.args.outcome c.requires.rest)
