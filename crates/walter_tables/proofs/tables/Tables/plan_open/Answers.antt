use Rattle.std.proofs.Common.{◌≡◌, ◌∙◌, Bool, true, false, ap, sym}
use Rattle.std.proofs.lemmas.Result.{IfOk-weaker}
use Rattle.walter_base.specs.declared.message.Reply.TheVariants.{Aborted}
use Rattle.walter_objects.specs.Preferred.{objects_among, are_local_among}
use Rattle.walter_rules.specs.Calls.{answers, decides, if_local, commits_open, commits_fast, begins_slow}
use Rattle.walter_rules.specs.Conflicts.{first_conflict}
use Rattle.walter_rules.specs.Knowledge.{Knowledge}
use Rattle.walter_rules.specs.Objects.{objects_of}
use Rattle.walter_session.specs.Sessions.{session_view}
use Rattle.walter_tables.specs.declared.plan.Planned.{Planned}
use Rattle.walter_tables.specs.Planning.{expected_of}
use Rattle.walter_tables.specs.Sites.{values_of, site_of, catalog_of, Stands}
use Rattle.walter_tables.proofs.Committed.{open_decides}
use Rattle.walter_tables.proofs.tables.Tables.plan_open.Goals as goal

pub returns-in-Some-clause-rule : goal.returns-in-Some-clause-rule
unfolding values_of site_of catalog_of
returns-in-Some-clause-rule c = λ K S.
    let now = c.args.self.now in
    let s = session_view c.args.session.now in
    let here : c.in_ok-here.here ≡ objects_among now.catalog now.site (objects_of s.updates) =
    let a = c.deref.ensures.value in let b = c.in_ok-written.ensures in let d = c.as_slice.ensures in
    let e = c.in_ok-here.ensures in cc in
    let met = sym c.in-Some.is ∙ c.conflict.ensures.rule K S ∙ ap (first_conflict K s.snapshot) here in
    c.answers.ensures.plan ∙ ap (λ cause. answers (Aborted cause)) c.cause_of.ensures ∙ ap (decides now.catalog now.site K s) met
    ∙ sym (open_decides now.catalog now.site K s s.updates c.requires.some)

pub returns-then-are_local-clause-rule : goal.returns-then-are_local-clause-rule
unfolding values_of site_of catalog_of
returns-then-are_local-clause-rule c =
    let now = c.args.self.now in
    let s = session_view c.args.session.now in
    let written : c.in_ok-written.written ≡ objects_of s.updates =
    let a = c.deref.ensures.value in let b = c.in_ok-written.ensures in cc in
    let here : c.in_ok-here.here ≡ objects_among now.catalog now.site (objects_of s.updates) =
    let d = c.as_slice.ensures in let e = c.in_ok-here.ensures in cc in
    let local : are_local_among now.catalog now.site (objects_of s.updates) ≡ true =
    let d = c.as_slice-2.ensures in let e = c.are_local.ensures in let f = c.if-are_local.true in cc in
    IfOk-weaker c.plan_fast.result
    (λ (p : Planned). (K : Knowledge) → Stands now K → expected_of p ≡ commits_fast now.catalog now.site K s)
    (λ (p : Planned). (K : Knowledge) → Stands now K → expected_of p ≡ commits_open now.catalog now.site K s s.updates)
    (λ p told K S.
    let met = sym c.in_default.is ∙ c.conflict.ensures.rule K S ∙ ap (first_conflict K s.snapshot) here in
    told K S ∙ sym (ap (λ (b : Bool). if_local b now.catalog now.site K s) local)
    ∙ ap (decides now.catalog now.site K s) met
    ∙ sym (open_decides now.catalog now.site K s s.updates c.requires.some))
    c.plan_fast.ensures.rule

pub returns-clause-rule : goal.returns-clause-rule
unfolding values_of site_of catalog_of
returns-clause-rule c =
    let now = c.args.self.now in
    let s = session_view c.args.session.now in
    let written : c.in_ok-written.written ≡ objects_of s.updates =
    let a = c.deref.ensures.value in let b = c.in_ok-written.ensures in cc in
    let here : c.in_ok-here.here ≡ objects_among now.catalog now.site (objects_of s.updates) =
    let d = c.as_slice.ensures in let e = c.in_ok-here.ensures in cc in
    let local : are_local_among now.catalog now.site (objects_of s.updates) ≡ false =
    let d = c.as_slice-2.ensures in let e = c.are_local.ensures in let f = c.if-are_local.false in cc in
    IfOk-weaker c.plan_slow.result
    (λ (p : Planned). (K : Knowledge) → Stands now K → expected_of p ≡ begins_slow now.catalog now.site K s)
    (λ (p : Planned). (K : Knowledge) → Stands now K → expected_of p ≡ commits_open now.catalog now.site K s s.updates)
    (λ p told K S.
    let met = sym c.in_default.is ∙ c.conflict.ensures.rule K S ∙ ap (first_conflict K s.snapshot) here in
    told K S ∙ sym (ap (λ (b : Bool). if_local b now.catalog now.site K s) local)
    ∙ ap (decides now.catalog now.site K s) met
    ∙ sym (open_decides now.catalog now.site K s s.updates c.requires.some))
    c.plan_slow.ensures.rule
