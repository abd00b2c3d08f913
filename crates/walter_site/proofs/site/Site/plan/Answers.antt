use Rattle.std.proofs.Common.{true, All, IfSome, sym, ◌∙◌, subst}
use Rattle.walter_site.specs.Members.{Knows, IsSizedPacket, IsSizedInput}
use Rattle.walter_rules.specs.declared.event.Event.TheVariants.{Given}
use Rattle.walter_rules.specs.Knowledge.{Knowledge}
use Rattle.walter_rules.specs.Records.{CanFollow, IsRecordAmong}
use Rattle.walter_rules.specs.Trails.{TakesMemory}
use Rattle.walter_tables.specs.Sites.{site_of, catalog_of}
use Rattle.walter_site.proofs.Plannings.{tick_wrote, plan_follows, plan_recorded, plan_sent, plan_short, plan_wants_record, plan_wants_room, plan_fits, on_err}
use Rattle.walter_site.proofs.site.Site.plan.Goals as goal

pub returns-in_err-plan-2-clause-free : goal.returns-in_err-plan-2-clause-free
returns-in_err-plan-2-clause-free c =
    let t = c.self.inside.tables in
    let K = c.self.invariant.0 in
    let S = c.self.invariant.1 in
    let input = c.args.input.now in
    on_err (TakesMemory true (Given input)) c.from_residual-in_err-plan-2.result
    (plan_wants_record c.args.header t K S input c.in_ok-plan.field-0 (c.in_ok-plan.ensures.rule K S.stands)
    c.in_err-plan-2.ensures.free)

pub returns-in_err-plan-3-clause-free : goal.returns-in_err-plan-3-clause-free
returns-in_err-plan-3-clause-free c =
    let t = c.self.inside.tables in
    let K = c.self.invariant.0 in
    let S = c.self.invariant.1 in
    let input = c.args.input.now in
    on_err (TakesMemory true (Given input)) c.from_residual-in_err-plan-3.result
    (plan_wants_room c.args.header t K S input c.in_ok-plan.field-0 (c.in_ok-plan.ensures.rule K S.stands)
    c.in_err-plan-3.ensures.free)

pub ready_answer-requires : goal.ready_answer-requires
ready_answer-requires c =
    let t = c.self.inside.tables in
    let K = c.self.invariant.0 in
    let stands = c.self.invariant.1.stands in
    let made = c.make_ready.ensures in
    record {
      fits = plan_fits c.args.header t c.make_ready.new.tables K (made.stands K stands) made.site made.catalog c.args.input.now
          c.in_ok-plan.field-0 (c.in_ok-plan.ensures.rule K stands);
    }

pub returns-clause-rests : goal.returns-clause-rests
returns-clause-rests c = λ tick.
    let t = c.self.inside.tables in
    let none = tick_wrote c.args.header t c.self.invariant.0 c.args.input.now c.in_ok-plan.field-0
    (c.in_ok-plan.ensures.rule c.self.invariant.0 c.self.invariant.1.stands) tick in
    c.ready_answer.ensures.rests tick ∙ c.make_ready.ensures.none none ∙ c.self.view_is

pub returns-clause-follows : goal.returns-clause-follows
returns-clause-follows c =
    let p = c.in_ok-plan.field-0 in
    subst (λ t. (K : Knowledge) → Knows t K → IfSome p.rec (CanFollow (catalog_of t) (site_of t) K)) c.self.view_is
    (λ K S. plan_follows c.args.header c.self.inside.tables K S c.args.input.now p (c.in_ok-plan.ensures.rule K S.stands))

pub returns-clause-sizes : goal.returns-clause-sizes
returns-clause-sizes c =
    let p = c.in_ok-plan.field-0 in
    let input = c.args.input.now in
    let K = c.self.invariant.0 in
    let S = c.self.invariant.1 in
    let sized = subst (λ t. IsSizedInput (catalog_of t).sites input) (sym c.self.view_is) c.requires.sized in
    subst (λ t. IfSome p.rec (IsRecordAmong (catalog_of t).sites)) c.self.view_is
    (plan_recorded c.args.header c.self.inside.tables K S input p (c.in_ok-plan.ensures.rule K S.stands) sized)

pub returns-clause-short : goal.returns-clause-short
returns-clause-short c =
    let K = c.self.invariant.0 in
    let S = c.self.invariant.1 in
    plan_short c.args.header c.self.inside.tables K S c.args.input.now c.in_ok-plan.field-0
    (c.in_ok-plan.ensures.rule K S.stands)

pub returns-clause-sent : goal.returns-clause-sent
returns-clause-sent c =
    let p = c.in_ok-plan.field-0 in
    let input = c.args.input.now in
    let K = c.self.invariant.0 in
    let S = c.self.invariant.1 in
    let sized = subst (λ t. IsSizedInput (catalog_of t).sites input) (sym c.self.view_is) c.requires.sized in
    subst (λ t. All (λ s. IsSizedPacket (catalog_of t).sites s.1) p.sends) c.self.view_is
    (plan_sent c.args.header c.self.inside.tables K S input p (c.in_ok-plan.ensures.rule K S.stands) sized)
