use Rattle.std.proofs.Common.{◌≡◌, false, refl, sym, subst}
use Rattle.walter_base.specs.declared.format.Format.TheVariants.{First}
use Rattle.walter_machine.specs.Comings.{IsSized, is_faulty}
use Rattle.walter_machine.specs.Machines.{HasStanding}
use Rattle.walter_machine.proofs.Answers.{rests, rest_comes, rest_down}
use Rattle.walter_machine.proofs.Sizes.{faultless, sized_only}
use Rattle.walter_machine.proofs.Standing.{down_of, only_made, still_standing}
use Rattle.walter_rules.specs.declared.entry.Came.{Came}
use Rattle.walter_rules.specs.declared.outcome.Outcome.{Outcome}
use Rattle.walter_rules.specs.Layouts.{header_of}
use Rattle.walter_rules.specs.Rule.{rule}
use Rattle.walter_rules.specs.Standing.{stands_after, unmade}
use Rattle.walter_rules.specs.Trails.{Comes}
use Rattle.walter_machine.proofs.machine.Machine.decline.Goals as goal

pub returns-clause-alone : goal.returns-clause-alone
returns-clause-alone c = only_made c.args.came.now c.outcome_of_down.result _ c.requires.alone refl

pub returns-clause-sized : goal.returns-clause-sized
returns-clause-sized c =
    let m = c.args.self.now in
    let is = only_made c.args.came.now _ _ c.requires.alone (c.outcome_of_down.ensures First m.catalog m.id unmade refl) in
    subst (λ (x : Came). IsSized m.catalog.sites x) (sym is)
    (sized_only m.catalog.sites _ (rests First m.catalog m.id unmade c.args.event.now refl c.requires.stays).short)

pub returns-clause-fine : goal.returns-clause-fine
returns-clause-fine c =
    let m = c.args.self.now in
    let is = c.outcome_of_down.ensures First m.catalog m.id unmade refl in
    subst (λ (o : Outcome). is_faulty o ≡ false) (sym is)
    (faultless c.args.event.now _ (rests First m.catalog m.id unmade c.args.event.now refl c.requires.stays).idle.stays)

pub returns-clause-comes : goal.returns-clause-comes
returns-clause-comes c = λ layout S has.
    let m = c.args.self.now in
    let header = header_of layout in
    let down = down_of m.site S has.state c.requires.down in
    let is = only_made c.args.came.now _ _ c.requires.alone (c.outcome_of_down.ensures header m.catalog m.id S down) in
    subst (λ (x : Came). Comes m.catalog layout m.id S c.args.event.now x) (sym is)
    (rest_comes m.catalog layout m.id S c.args.event.now (rests header m.catalog m.id S c.args.event.now down c.requires.stays))

pub returns-clause-stands : goal.returns-clause-stands
returns-clause-stands c = λ S has.
    let m = c.args.self.now in
    let down = down_of m.site S has.state c.requires.down in
    let is = only_made c.args.came.now _ _ c.requires.alone (c.outcome_of_down.ensures First m.catalog m.id S down) in
    let rest = rests First m.catalog m.id S c.args.event.now down c.requires.stays in
    subst (λ (x : Came). HasStanding m (stands_after m.catalog m.id S c.args.event.now x)) (sym is)
    (still_standing m S has c.args.event.now (rule First m.catalog m.id S c.args.event.now).outcome rest.idle (rest.untold S.gone))

pub returns-clause-down : goal.returns-clause-down
returns-clause-down c =
    let m = c.args.self.now in
    rest_down m.catalog m.id unmade c.args.event.now _ (rests First m.catalog m.id unmade c.args.event.now refl c.requires.stays)
    c.outcome_of_down.result (c.outcome_of_down.ensures First m.catalog m.id unmade refl)
