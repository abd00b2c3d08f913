use Rattle.std.proofs.Common.{Some, refl, sym}
use Rattle.std.specs.Prelude.{OnOk}
use Rattle.walter_base.specs.declared.catalog.Catalog.{Catalog}
use Rattle.walter_base.specs.declared.names.SiteId.{SiteId}
use Rattle.walter_machine.specs.Readiness.{IsReadyFor}
use Rattle.walter_machine.proofs.Answers.{gone_ready}
use Rattle.walter_machine.proofs.Planned.{up_owing, at_site, on_ok}
use Rattle.walter_rules.specs.declared.event.Event.TheVariants.{Given}
use Rattle.walter_rules.specs.Knowledge.{fresh}
use Rattle.walter_tables.specs.Sites.{site_of, catalog_of}
use Rattle.walter_machine.proofs.preparing.prepare_input.Goals as goal

pub returns-in-Some-clause-ready : goal.returns-in-Some-clause-ready
returns-in-Some-clause-ready c = λ S up owes.
    let t = c.args.site.now in
    gone_ready c.args.header (catalog_of t) (site_of t) (Some t) S c.args.input.now c.args.owed c.in-Some.tid up.up owes
    (sym c.in-Some.ensures) c.make_answer.new.ready c.make_answer.ensures.step c.make_answer.ensures.frames

pub returns-in-Some-clause-anyway : goal.returns-in-Some-clause-anyway
returns-in-Some-clause-anyway c = λ gone owes.
    let t = c.args.site.now in
    record {
      header = c.args.header;
      S = up_owing fresh gone;
      ready_for = gone_ready c.args.header (catalog_of t) (site_of t) (Some t) (up_owing fresh gone) c.args.input.now c.args.owed
          c.in-Some.tid refl owes (sym c.in-Some.ensures) c.make_answer.new.ready c.make_answer.ensures.step
          c.make_answer.ensures.frames;
    }

pub returns-in-None-clause-ready : goal.returns-in-None-clause-ready
returns-in-None-clause-ready c = λ S up owes.
    let t = c.args.site.now in
    let tidied = c.tidy_at.ensures in
    at_site (λ (x : Catalog) (k : SiteId). OnOk c.plan.result (IsReadyFor c.args.header x k (Some c.plan.new.site) S (Given c.args.input.now) c.plan.new.ready))
    c.tidy_at.new.site (catalog_of t) (site_of t) (tidied.site, tidied.catalog)
    (c.plan.ensures.ready S c.args.owed (tidied.state S up) owes (sym c.in-None.ensures))

pub returns-in-None-clause-anyway : goal.returns-in-None-clause-anyway
returns-in-None-clause-anyway c = λ gone owes.
    let t = c.args.site.now in
    let known = c.plan.ensures.standing in
    let S = up_owing known.0 gone in
    let tidied = c.tidy_at.ensures in
    on_ok c.plan.result _ _ (λ ready. record { header = c.args.header; S = S; ready_for = ready })
    (at_site (λ (x : Catalog) (k : SiteId). OnOk c.plan.result (IsReadyFor c.args.header x k (Some c.plan.new.site) S (Given c.args.input.now) c.plan.new.ready))
    c.tidy_at.new.site (catalog_of t) (site_of t) (tidied.site, tidied.catalog)
    (c.plan.ensures.ready S c.args.owed (record { up = refl; knows = known.1; settled = refl }) owes (sym c.in-None.ensures)))
