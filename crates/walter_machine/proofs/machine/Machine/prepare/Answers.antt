use Rattle.std.proofs.Common.{true, Option, Some, sym, subst, refl}
use Rattle.std.specs.Prelude.{OnOk, IfSome}
use Rattle.walter_base.specs.ByClient.{of_client}
use Rattle.walter_base.specs.declared.catalog.Catalog.{Catalog}
use Rattle.walter_base.specs.declared.names.SiteId.{SiteId}
use Rattle.walter_machine.specs.Readiness.{IsReadyFor, IsReadyAnyway}
use Rattle.walter_machine.specs.States.{IsOf, IsState}
use Rattle.walter_machine.proofs.Answers.{pass_ready, stop_ready}
use Rattle.walter_machine.proofs.Planned.{at_site}
use Rattle.walter_machine.proofs.Standing.{debt_so}
use Rattle.walter_rules.specs.declared.event.Event.{Event}
use Rattle.walter_rules.specs.declared.event.Event.TheVariants.{Given}
use Rattle.walter_rules.specs.Standing.{unmade}
use Rattle.walter_tables.specs.declared.tables.Tables.{Tables}
use Rattle.walter_machine.proofs.machine.Machine.prepare.Goals as goal

pub returns-in-Given-clause-ready : goal.returns-in-Given-clause-ready
returns-in-Given-clause-ready c = λ S has.
    let m = c.args.self.now in
    let made = c.prepare_input in
    let up = subst (λ (o : Option Tables). IsState S o) c.in-Some.is has.state in
    let of = subst (λ (o : Option Tables). IfSome o (IsOf m.catalog m.id)) c.in-Some.is m.of in
    subst (λ (e : Event). OnOk made.result (IsReadyFor c.args.header m.catalog m.id (Some made.new.site) S e made.new.ready)) (sym c.in-Given.is)
    (at_site (λ (x : Catalog) (k : SiteId). OnOk made.result (IsReadyFor c.args.header x k (Some made.new.site) S (Given c.in-Given.input) made.new.ready)) c.in-Some.site
    m.catalog m.id of (made.ensures.ready S up (debt_so m S _ _ has (m.roomy c.requires.up) c.debt_of-owed.ensures)))

pub returns-in-Given-clause-anyway : goal.returns-in-Given-clause-anyway
returns-in-Given-clause-anyway c =
    let m = c.args.self.now in
    let made = c.prepare_input in
    let of = subst (λ (o : Option Tables). IfSome o (IsOf m.catalog m.id)) c.in-Some.is m.of in
    subst (λ (e : Event). OnOk made.result (IsReadyAnyway m.catalog m.id (Some made.new.site) e made.new.ready)) (sym c.in-Given.is)
    (at_site (λ (x : Catalog) (k : SiteId). OnOk made.result (IsReadyAnyway x k (Some made.new.site) (Given c.in-Given.input) made.new.ready)) c.in-Some.site
    m.catalog m.id of (made.ensures.anyway (λ client. of_client client m.debts.entries) c.debt_of-owed.ensures))

pub returns-in-Given-clause-stands : goal.returns-in-Given-clause-stands
returns-in-Given-clause-stands c = λ S has. record {
  state = c.prepare_input.ensures.state S (subst (λ (o : Option Tables). IsState S o) c.in-Some.is has.state);
  told = has.told;
  flight = has.flight;
  count = has.count;
  owed = has.owed;
}

pub returns-in-Stop-clause-anyway : goal.returns-in-Stop-clause-anyway
returns-in-Stop-clause-anyway c =
    let m = c.args.self.now in
    let made = c.make_fall in
    subst (λ (e : Event). IsReadyAnyway m.catalog m.id (Some c.in-Some.site) e made.new.ready) (sym c.in-Stop.is) (record {
      header = c.args.header;
      S = record unmade { up = true };
      ready_for = stop_ready c.args.header m.catalog m.id (Some c.in-Some.site) (record unmade { up = true }) refl refl made.new.ready made.ensures.step made.ensures.frames;
    })

pub returns-in-Restart-clause-ready : goal.returns-in-Restart-clause-ready
returns-in-Restart-clause-ready c = λ S has.
    let m = c.args.self.now in
    let made = c.make_answer in
    let up = subst (λ (o : Option Tables). IsState S o) c.in-Some.is has.state in
    subst (λ (e : Event). IsReadyFor c.args.header m.catalog m.id (Some c.in-Some.site) S e made.new.ready) (sym c.in-Restart.is)
    (pass_ready c.args.header m.catalog m.id (Some c.in-Some.site) S up.up made.new.ready made.ensures.step made.ensures.frames)

pub returns-in-Restart-clause-anyway : goal.returns-in-Restart-clause-anyway
returns-in-Restart-clause-anyway c =
    let m = c.args.self.now in
    let made = c.make_answer in
    subst (λ (e : Event). IsReadyAnyway m.catalog m.id (Some c.in-Some.site) e made.new.ready) (sym c.in-Restart.is) (record {
      header = c.args.header;
      S = record unmade { up = true };
      ready_for = pass_ready c.args.header m.catalog m.id (Some c.in-Some.site) (record unmade { up = true }) refl made.new.ready made.ensures.step made.ensures.frames;
    })
