use Rattle.std.proofs.Common.{◌≡◌, ◌∙◌, Option, ap, sym, subst, refl}
use Rattle.std.specs.Prelude.{IfSome, is_some}
use Rattle.walter_base.specs.declared.message.Record.{Record}
use Rattle.walter_machine.specs.States.{IsOf}
use Rattle.walter_machine.specs.declared.ready.Kind.{Kind}
use Rattle.walter_machine.specs.Readiness.{step_in}
use Rattle.walter_machine.specs.Steps.{record_of, step_by}
use Rattle.walter_tables.specs.declared.tables.Tables.{Tables}
use Rattle.walter_machine.specs.Comings.{IsFall}
use Rattle.walter_machine.proofs.Standing.{fail_comes, failed_standing_by, fault_made, lost_none, next_recorded, room_of}
use Rattle.walter_machine.proofs.Standings.{failure_falls, fault_of}
use Rattle.walter_rules.specs.declared.outcome.Outcome.{Outcome}
use Rattle.walter_machine.proofs.machine.Machine.fail.Goals as goal
use Rattle.walter_rules.specs.Records.{IsRecordAmong}

pub lose-requires-clause-falls : goal.lose-requires-clause-falls
lose-requires-clause-falls c =
    subst (λ (o : Outcome). IsFall c.args.event.now o) (sym c.failure-outcome.ensures)
    (failure_falls c.args.event.now c.in-Some.failed.now)

pub place-requires : goal.place-requires
place-requires c = (room_of c.args.self.now c.requires.room).enough

pub lose-requires-clause-unlost : goal.lose-requires-clause-unlost
lose-requires-clause-unlost c =
    let m = c.args.self.now in
    lost_none m.lost (room_of m c.requires.room).unlost

pub invariant_of-self-clause-of : goal.invariant_of-self-clause-of
invariant_of-self-clause-of c =
    let m = c.args.self.now in
    subst (λ (t : Option Tables). IfSome t (IsOf m.catalog m.id)) (sym c.lose.ensures.down) tt

pub invariant_of-self-clause-sized : goal.invariant_of-self-clause-sized
invariant_of-self-clause-sized c =
    let m = c.args.self.now in
    subst (λ (f : Option Record). IfSome f (IsRecordAmong m.catalog.sites)) (sym (c.place.ensures.rec ∙ sym c.rec_of.ensures
    ∙ ap (λ (k : Kind). record_of (step_by k c.args.ready.now.plan)) c.replace-kind.ensures.value))
    (next_recorded m.catalog m.id c.requires.anyway.S (record_of (step_in c.args.ready.now)) c.requires.anyway.ready_for.next)

pub invariant_of-self-clause-roomy : goal.invariant_of-self-clause-roomy
invariant_of-self-clause-roomy c = λ up. absurd (let no = ap is_some c.lose.ensures.down in cc)

made : (c : goal.Joined-came-rec) → record c.args.came.now { outcome = c.failure-outcome.result; flight = c.replace-rec.result }
    ≡ fault_of c.args.event.now c.in-Some.failed.now
made c = fault_made c.args.came.now c.failure-outcome.result c.replace-rec.result c.args.event.now c.in-Some.failed.now
    c.requires.alone c.failure-outcome.ensures c.in-Some.ensures.some

pub returns-clause-comes : goal.returns-clause-comes
returns-clause-comes c = λ layout S ready fits.
    let m = c.args.self.now in
    fail_comes m.catalog layout m.id m.site S c.args.event.now c.args.ready.now c.in-Some.failed.now _
    (sym c.args.ready.now.copy ∙ sym c.replace-rec.ensures.value ∙ c.in-Some.ensures.some)
    (made c) ready fits

pub returns-clause-stands : goal.returns-clause-stands
returns-clause-stands c = λ header S has counted ready.
    let m = c.args.self.now in
    failed_standing_by header m _ S c.args.event.now c.args.ready.now c.in-Some.failed.now _ c.failure-outcome.result
    (sym c.args.ready.now.copy ∙ sym c.replace-rec.ensures.value ∙ c.in-Some.ensures.some)
    (made c)
    has counted ready (room_of m c.requires.room).unlost m.of c.failure-outcome.ensures
    c.lose.ensures.lost c.lose.ensures.none refl refl c.lose.ensures.down
    (c.place.ensures.rec ∙ sym c.rec_of.ensures
    ∙ ap (λ (k : Kind). record_of (step_by k c.args.ready.now.plan)) c.replace-kind.ensures.value) refl refl
