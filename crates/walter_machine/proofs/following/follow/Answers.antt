use Rattle.std.proofs.Common.{◌≡◌, ◌∙◌, Option, Some, None, sym, ap, subst}
use Rattle.std.specs.Prelude.{is_some}
use Rattle.walter_rules.specs.Standing.{up_after}
use Rattle.walter_machine.specs.declared.ready.Kind.{Kind}
use Rattle.walter_machine.specs.Steps.{Apply, Fall, Rise, Steps, IsStep, came_of, outcome_of, step_by}
use Rattle.walter_tables.specs.declared.tables.Tables.{Tables}
use Rattle.walter_machine.proofs.Behind.{plan_steps, fall_steps, rise_steps, idle_up, plan_up, rise_up, no_stop_at_tick, no_rise_at_tick}
use Rattle.walter_base.specs.declared.message.Record.TheVariants.{Boot}
use Rattle.walter_rules.specs.Learning.{recorded}
use Rattle.walter_session.specs.Sessions.{Table}
use Rattle.walter_site.proofs.Booted.{knows_booted}
use Rattle.walter_machine.proofs.following.follow.Goals as goal

pub rise-requires : goal.rise-requires
rise-requires c =
    let can = c.requires.can in
    let rise_is = subst (λ (k : Kind). IsStep can.catalog can.i c.args.site.now can.S c.args.event.now (step_by k c.args.plan.now)) c.in-Rise.is can.is in (
      recorded can.catalog can.i (Some (Boot c.in-Rise.field-1)) can.S.knows,
      knows_booted can.catalog can.i c.in-Rise.tables.value can.S.knows c.in-Rise.field-1 rise_is.next rise_is.stands,
    )

pub returns-in-Apply-clause-steps : goal.returns-in-Apply-clause-steps
returns-in-Apply-clause-steps c = λ catalog i S of state is.
    let event = c.args.event.now in
    let site = c.args.site.now in
    let plan_is = subst (λ (k : Kind). IsStep catalog i site S event (step_by k c.args.plan.now)) c.in-Apply.is is in
    subst (λ (k : Kind). Steps catalog i S event (came_of (step_by k c.args.plan.now)) c.apply.new.site c.args.lost.now) (sym c.in-Apply.is)
    (subst (λ (lost : Option Table). Steps catalog i S event (came_of (Apply c.args.plan.now)) c.apply.new.site lost) (sym c.requires.unlost)
    (plan_steps catalog i S event c.args.plan.now site c.apply.new.site of state plan_is (c.apply.ensures.knows S plan_is)))

pub returns-in-Fall-clause-steps : goal.returns-in-Fall-clause-steps
returns-in-Fall-clause-steps c = λ catalog i S of state is.
    let event = c.args.event.now in
    let site = c.args.site.now in
    let stop_is = subst (λ (k : Kind). IsStep catalog i site S event (step_by k c.args.plan.now)) c.in-Fall.is is in
    subst (λ (k : Kind). Steps catalog i S event (came_of (step_by k c.args.plan.now)) c.fall.new.site c.fall.new.lost) (sym c.in-Fall.is)
    (subst (λ (t : Option Tables). Steps catalog i S event (came_of Fall) t c.fall.new.lost) (sym c.fall.ensures.down)
    (fall_steps catalog i S event site c.fall.new.lost state stop_is (c.fall.ensures.lost S.knows)))

pub returns-in-Rise-clause-steps : goal.returns-in-Rise-clause-steps
returns-in-Rise-clause-steps c = λ catalog i S of state is.
    let event = c.args.event.now in
    let site = c.args.site.now in
    let rise_is = subst (λ (k : Kind). IsStep catalog i site S event (step_by k c.args.plan.now)) c.in-Rise.is is in
    subst (λ (k : Kind). Steps catalog i S event (came_of (step_by k c.args.plan.now)) c.rise.new.site c.args.lost.now) (sym c.in-Rise.is)
    (subst (λ (lost : Option Table). Steps catalog i S event (came_of (Rise c.in-Rise.tables c.in-Rise.field-1)) c.rise.new.site lost) (sym c.requires.unlost)
    (subst (λ (t : Option Tables). Steps catalog i S event (came_of (Rise c.in-Rise.tables c.in-Rise.field-1)) t None) (sym c.rise.ensures)
    (rise_steps catalog i site S event c.in-Rise.tables c.in-Rise.field-1 rise_is)))

pub returns-in-Answer-clause-up : goal.returns-in-Answer-clause-up
returns-in-Answer-clause-up c =
    let can = c.requires.can in
    let event = c.args.event.now in
    let site = c.args.site.now in
    subst (λ (k : Kind). is_some site ≡ up_after event (outcome_of (step_by k c.args.plan.now)) (is_some site)) (sym c.in-Answer.is)
    (idle_up can.catalog can.i can.S event c.args.plan.now.planned.outcome (is_some site)
    (subst (λ (k : Kind). IsStep can.catalog can.i site can.S event (step_by k c.args.plan.now)) c.in-Answer.is can.is))

pub returns-in-Apply-clause-up : goal.returns-in-Apply-clause-up
returns-in-Apply-clause-up c =
    let can = c.requires.can in
    let event = c.args.event.now in
    let site = c.args.site.now in
    let plan_is = subst (λ (k : Kind). IsStep can.catalog can.i site can.S event (step_by k c.args.plan.now)) c.in-Apply.is can.is in
    subst (λ (k : Kind). is_some c.apply.new.site ≡ up_after event (outcome_of (step_by k c.args.plan.now)) (is_some site)) (sym c.in-Apply.is)
    (plan_up site c.apply.new.site can.S event c.args.plan.now plan_is (c.apply.ensures.knows can.S plan_is))

pub returns-in-Rise-clause-up : goal.returns-in-Rise-clause-up
returns-in-Rise-clause-up c =
    let can = c.requires.can in
    let event = c.args.event.now in
    let site = c.args.site.now in
    subst (λ (k : Kind). is_some c.rise.new.site ≡ up_after event (outcome_of (step_by k c.args.plan.now)) (is_some site)) (sym c.in-Rise.is)
    (ap is_some c.rise.ensures ∙ rise_up can.catalog can.i site can.S event c.in-Rise.tables.value c.in-Rise.field-1
    (subst (λ (k : Kind). IsStep can.catalog can.i site can.S event (step_by k c.args.plan.now)) c.in-Rise.is can.is))

pub returns-in-Apply-clause-tick : goal.returns-in-Apply-clause-tick
returns-in-Apply-clause-tick c = c.apply.ensures.tick

pub returns-in-Fall-clause-tick : goal.returns-in-Fall-clause-tick
returns-in-Fall-clause-tick c = λ tick.
    let can = c.requires.can in
    absurd (no_stop_at_tick c.args.site.now c.args.event.now
    (subst (λ (k : Kind). IsStep can.catalog can.i c.args.site.now can.S c.args.event.now (step_by k c.args.plan.now)) c.in-Fall.is can.is) tick)

pub returns-in-Rise-clause-tick : goal.returns-in-Rise-clause-tick
returns-in-Rise-clause-tick c = λ tick.
    let can = c.requires.can in
    absurd (no_rise_at_tick can.catalog can.i c.args.site.now can.S c.args.event.now c.in-Rise.tables.value c.in-Rise.field-1
    (subst (λ (k : Kind). IsStep can.catalog can.i c.args.site.now can.S c.args.event.now (step_by k c.args.plan.now)) c.in-Rise.is can.is) tick)
