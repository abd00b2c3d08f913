use Rattle.std.proofs.Common.{◌∙◌, ℕ, map, sym, subst, ap, refl}
use Rattle.std.specs.Prelude.{All}
use Rattle.walter_packet.specs.Framed.{frame_of}
use Rattle.walter_packet.specs.Spelling.{HasPacketSpelling}
use Rattle.walter_rules.specs.Sending.{Send}
use Rattle.walter_tables.specs.Planning.{expected_of}
use Rattle.walter_tables.specs.Sites.{site_of, catalog_of}
use Rattle.walter_machine.proofs.Calls.{record_takes, sends_take, on_err}
use Rattle.walter_machine.proofs.Planned.{plan_ready}
use Rattle.walter_machine.proofs.preparing.plan.Goals as goal

pub returns-in_err-ready-clause-free : goal.returns-in_err-ready-clause-free
returns-in_err-ready-clause-free c =
    let e = c.in_ok-plan.ensures in
    on_err _ _ (sends_take c.args.header (catalog_of c.args.site.now) (site_of c.args.site.now) e.standing.0 c.args.input.now (expected_of c.plan.new.plan.planned)
    (e.rule e.standing.0 e.standing.1) c.in_err-ready.ensures.free)

pub returns-in_err-ready-2-clause-free : goal.returns-in_err-ready-2-clause-free
returns-in_err-ready-2-clause-free c =
    let e = c.in_ok-plan.ensures in
    on_err _ _ (record_takes c.args.header (catalog_of c.args.site.now) (site_of c.args.site.now) e.standing.0 c.args.input.now (expected_of c.plan.new.plan.planned)
    (e.rule e.standing.0 e.standing.1) c.in_err-ready-2.ensures.free)

pub returns-clause-ready : goal.returns-clause-ready
returns-clause-ready c = λ S owed up owes first.
    let e = c.in_ok-plan.ensures in
    let plan = c.plan.new.plan in
    plan_ready c.args.header (catalog_of c.args.site.now) (site_of c.args.site.now) S c.args.site.now _ c.args.input.now owed plan refl refl e.site e.catalog
    up owes first (e.knows S.knows up.knows) (e.rule S.knows up.knows) e.ready (e.follows S.knows up.knows) e.sizes e.short
    (subst (λ (n : ℕ). All (λ s. HasPacketSpelling n s.1) plan.planned.sends) (sym c.requires.among) c.in_ok-ready.ensures.spelled) _ refl
    (c.in_ok-ready.ensures.frames ∙ ap (λ (n : ℕ). map (λ (s : Send). frame_of n s.1) plan.planned.sends) (sym c.requires.among))
