use Rattle.std.proofs.Common.{◌≡◌, Option, None, refl, IfSome, ap, sym, ◌∙◌, subst}
use Rattle.walter_base.specs.declared.format.Format.{Format}
use Rattle.walter_base.specs.declared.message.Record.{Record}
use Rattle.walter_base.specs.declared.update.Update.{Update}
use Rattle.walter_site.specs.Members.{Knows, input_rule}
use Rattle.walter_site.specs.Plans.{CanTakeIn, IsReady, IsFromWithin}
use Rattle.walter_rules.specs.declared.event.Event.TheVariants.{Given}
use Rattle.walter_rules.specs.declared.event.Input.{Input}
use Rattle.walter_tables.specs.declared.plan.Planned.{Planned}
use Rattle.walter_tables.specs.declared.tables.Tables.{Tables}
use Rattle.walter_rules.specs.Knowledge.{Knowledge}
use Rattle.walter_rules.specs.Learning.{after, recorded}
use Rattle.walter_rules.specs.Records.{CanFollow, IsRecordAmong}
use Rattle.walter_tables.specs.Planning.{expected_of}
use Rattle.walter_tables.specs.Answering.{begun_in}
use Rattle.walter_tables.specs.Sites.{site_of, catalog_of, Stands}
use Rattle.walter_site.proofs.Plannings.{plan_for, plan_within, planned_takes_in, planned_knows}
use Rattle.walter_site.proofs.site.Site.apply.Goals as goal

-- the tables behind a record, if there is one
abbrev Keeps : (old new : Tables) → Option Record → Type 0
Keeps old new rec = (K : Knowledge) → Stands old K → IfSome rec (CanFollow (catalog_of old) (site_of old) K)
    → IfSome rec (IsRecordAmong (catalog_of old).sites) → Stands new (recorded (catalog_of old) (site_of old) rec K)

-- a header and a knowledge by which the plan is the rule's
abbrev HasRule : Tables → Input → Planned → Type 0
HasRule t input p =
    (header : Format) × (K : Knowledge) × Knows t K
    × (expected_of p ≡ input_rule header (catalog_of t) (site_of t) K input)

pub take_in-requires-clause-takes_in : goal.take_in-requires-clause-takes_in
take_in-requires-clause-takes_in c =
    let t = c.self.inside.tables in
    let input = c.args.input.now in
    let p = c.args.plan.now.planned in
    let rule = subst (λ x. HasRule x input p) (sym c.self.view_is) c.requires.rule in
    let sizes = subst (λ x. IfSome p.rec (IsRecordAmong (catalog_of x).sites)) (sym c.self.view_is) c.requires.sizes in
    let ready = subst (λ x. IsReady x input c.args.plan.now) (sym c.self.view_is) c.requires.ready in
    let kept = c.keep_any.ensures in
    let stands = subst (λ (o : Option Record). Keeps t c.keep_any.new.tables o) c.replace-rec.ensures.value kept.stands in
    subst (λ (o : Option Update). CanTakeIn c.keep_any.new.tables input p.outcome o) (sym c.replace-asked.ensures.value)
    (planned_takes_in t c.keep_any.new.tables c.keep_any.new.tables input p c.number_begun-begun.result kept.site
    kept.catalog refl stands sizes rule.0 rule.1 rule.2 rule.3 kept.sessions c.args.plan.now.asked ready.takes_in)

pub take_in-requires-clause-within : goal.take_in-requires-clause-within
take_in-requires-clause-within c =
    let input = c.args.input.now in
    let p = c.args.plan.now.planned in
    let rule = subst (λ x. HasRule x input p) (sym c.self.view_is) c.requires.rule in
    subst (λ x. IsFromWithin x input p.outcome) (sym c.keep_any.ensures.catalog)
    (plan_within rule.0 c.self.inside.tables rule.1 rule.2 input p rule.3)

pub take_in-requires-clause-of_input : goal.take_in-requires-clause-of_input
take_in-requires-clause-of_input c =
    let input = c.args.input.now in
    let p = c.args.plan.now.planned in
    let rule = subst (λ x. HasRule x input p) (sym c.self.view_is) c.requires.rule in
    plan_for rule.0 c.self.inside.tables rule.1 rule.2 input p rule.3

pub invariant_of-self : goal.invariant_of-self
invariant_of-self c =
    let t = c.self.inside.tables in
    let input = c.args.input.now in
    let p = c.args.plan.now.planned in
    let rule = subst (λ x. HasRule x input p) (sym c.self.view_is) c.requires.rule in
    let sizes = subst (λ x. IfSome p.rec (IsRecordAmong (catalog_of x).sites)) (sym c.self.view_is) c.requires.sizes in
    let kept = c.keep_any.ensures in
    let stands = subst (λ (o : Option Record). Keeps t c.keep_any.new.tables o) c.replace-rec.ensures.value kept.stands in (
      after (catalog_of t) (site_of t) rule.1 (Given input) p.outcome p.rec,
      planned_knows t c.keep_any.new.tables c.take_in.new.tables input p c.number_begun-begun.result kept.site
          kept.catalog c.take_in.ensures.site stands sizes rule.0 rule.1 rule.2 rule.3 (c.number_begun-begun.ensures ∙ ap begun_in c.replace-rec.ensures.value)
          c.take_in.ensures.stands,
    )

pub returns-clause-knows : goal.returns-clause-knows
returns-clause-knows c =
    let t = c.self.inside.tables in
    let input = c.args.input.now in
    let p = c.args.plan.now.planned in
    let sizes = subst (λ x. IfSome p.rec (IsRecordAmong (catalog_of x).sites)) (sym c.self.view_is) c.requires.sizes in
    let kept = c.keep_any.ensures in
    let stands = subst (λ (o : Option Record). Keeps t c.keep_any.new.tables o) c.replace-rec.ensures.value kept.stands in
    subst (λ x. (header : Format) (K : Knowledge) → Knows x K
    → expected_of p ≡ input_rule header (catalog_of x) (site_of x) K input
    → Knows c.take_in.new.tables (after (catalog_of x) (site_of x) K (Given input) p.outcome p.rec)) c.self.view_is
    (λ header K S ruled. planned_knows t c.keep_any.new.tables c.take_in.new.tables input p c.number_begun-begun.result kept.site
    kept.catalog c.take_in.ensures.site stands sizes header K S ruled (c.number_begun-begun.ensures ∙ ap begun_in c.replace-rec.ensures.value) c.take_in.ensures.stands)

-- a tick writes no record, and is taken in by nothing
pub returns-clause-tick : goal.returns-clause-tick
returns-clause-tick c is =
    let t = c.self.inside.tables in
    let p = c.args.plan.now.planned in
    let rule = subst (λ x. HasRule x c.args.input.now p) (sym c.self.view_is) c.requires.rule in
    let none : p.rec ≡ None = ap (λ e. e.wrote) rule.3
    ∙ ap (λ (i : Input). (input_rule rule.0 (catalog_of t) (site_of t) rule.1 i).wrote) is in
    c.take_in.ensures.tick is ∙ (c.keep_any.ensures.none (c.replace-rec.ensures.value ∙ none) ∙ c.self.view_is)
