use Rattle.std.proofs.Common.{◌∙◌, ap, sym, subst, refl}
use Rattle.std.specs.Prelude.{IfSome, is_some}
use Rattle.walter_machine.specs.declared.ready.Kind.{Kind}
use Rattle.walter_machine.specs.Steps.{IsStep, Steps, came_of, flight_behind, outcome_of, records_behind, sends_of, step_by}
use Rattle.walter_machine.proofs.Standing.{came_made, flight_sized, keep_comes, kept_standing, lost_none, room_of}
use Rattle.walter_rules.specs.declared.entry.Came.{Came}
use Rattle.walter_rules.specs.Trails.{Comes}
use Rattle.walter_machine.proofs.machine.Machine.keep.Goals as goal
use Rattle.walter_rules.specs.Records.{IsRecordAmong}

pub follow-requires-clause-can : goal.follow-requires-clause-can
follow-requires-clause-can c =
    let m = c.args.self.now in
    record {
      catalog = m.catalog;
      i = m.id;
      S = c.requires.anyway.S;
      of = m.of;
      is = subst (λ (k : Kind). IsStep m.catalog m.id m.site c.requires.anyway.S c.args.event.now (step_by k c.args.ready.now.plan))
          (sym c.replace-kind.ensures.value) c.requires.anyway.ready_for.step;
    }

pub follow-requires-clause-unlost : goal.follow-requires-clause-unlost
follow-requires-clause-unlost c =
    let m = c.args.self.now in
    lost_none m.lost (room_of m c.requires.room).unlost

pub invariant_of-self-clause-of : goal.invariant_of-self-clause-of
invariant_of-self-clause-of c =
    let m = c.args.self.now in
    c.follow.ensures.of m.catalog m.id c.requires.anyway.S m.of
    (subst (λ (k : Kind). IsStep m.catalog m.id m.site c.requires.anyway.S c.args.event.now (step_by k c.args.ready.now.plan))
    (sym c.replace-kind.ensures.value) c.requires.anyway.ready_for.step)

pub invariant_of-self-clause-sized : goal.invariant_of-self-clause-sized
invariant_of-self-clause-sized c =
    let m = c.args.self.now in
    subst (λ f. IfSome f (IsRecordAmong m.catalog.sites)) (sym c.count_in-records.ensures.flight)
    (flight_sized (IsRecordAmong m.catalog.sites) _ _
    (subst (λ f. IfSome f (IsRecordAmong m.catalog.sites)) (sym c.replace-flight.ensures.value) m.sized))

pub invariant_of-self-clause-roomy : goal.invariant_of-self-clause-roomy
invariant_of-self-clause-roomy c = λ up. record {
  unlost = ap is_some (c.follow.ensures.unlost up);
  enough = (room_of c.args.self.now c.requires.room).enough;
}

pub returns-clause-came : goal.returns-clause-came
returns-clause-came c =
    let out = c.follow.ensures in
    let plan = c.args.ready.now.plan in
    let of_kind = c.replace-kind.ensures.value in
    came_made c.args.came.now _ _ _ (step_by c.args.ready.now.kind plan) c.requires.alone
    (c.replace.ensures.value ∙ out.outcome ∙ ap (λ (k : Kind). outcome_of (step_by k plan)) of_kind)
    (c.replace-wrote.ensures.value ∙ c.args.ready.now.copy)
    (c.replace-2.ensures.value ∙ out.sends ∙ ap (λ (k : Kind). sends_of (step_by k plan)) of_kind)

pub returns-clause-comes : goal.returns-clause-comes
returns-clause-comes c = λ layout S ready fits.
    let m = c.args.self.now in
    subst (λ (x : Came). Comes m.catalog layout m.id S c.args.event.now x) (sym (returns-clause-came c))
    (keep_comes m.catalog layout m.id m.site S c.args.event.now c.args.ready.now ready fits)

pub returns-clause-stands : goal.returns-clause-stands
returns-clause-stands c = λ header S has counted ready.
    let m = c.args.self.now in
    let out = c.follow.ensures in
    let plan = c.args.ready.now.plan in
    let of_kind = c.replace-kind.ensures.value in
    let wrote_is = c.replace-wrote.ensures.value ∙ c.args.ready.now.copy in
    let steps =
    subst (λ (k : Kind). Steps m.catalog m.id S c.args.event.now (came_of (step_by k plan)) c.follow.new.site c.follow.new.lost) of_kind
    (out.steps m.catalog m.id S m.of has.state
    (subst (λ (k : Kind). IsStep m.catalog m.id m.site S c.args.event.now (step_by k plan)) (sym of_kind) ready.step)) in
    kept_standing header m _ S c.args.event.now c.args.ready.now _ c.follow.new.plan.planned.outcome
    (returns-clause-came c) has counted ready (room_of m c.requires.room).unlost steps refl refl
    (c.count_in-records.ensures.flight ∙ (λ j. flight_behind (wrote_is j) (c.replace-flight.ensures.value j)))
    (c.count_in-records.ensures.records ∙ (λ j. records_behind (wrote_is j) m.records))
    (out.outcome ∙ ap (λ (k : Kind). outcome_of (step_by k plan)) of_kind) c.forgive.ensures
