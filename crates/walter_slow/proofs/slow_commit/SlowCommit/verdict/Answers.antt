use Rattle.std.proofs.Common.{◌≡◌, ◌∙◌, ◌∷◌, List, true, false, Some, is_some, sym, ap, subst}
use Rattle.std.specs.List.{list_all}
use Rattle.walter_base.specs.declared.names.SiteId.{SiteId}
use Rattle.walter_slow.specs.declared.verdict.Verdict.TheVariants.{Commit, Waiting}
use Rattle.walter_rules.specs.Slow.{has_site}
use Rattle.walter_slow.specs.Kept.{Kept, verdict_of}
use Rattle.walter_slow.proofs.Verdicts.{yes_verdict}
use Rattle.walter_slow.proofs.slow_commit.SlowCommit.verdict.Goals as goal

pub returns-in-Yes : goal.returns-in-Yes
returns-in-Yes c =
    let now = c.args.self.now in
    let from = c.args.from in
    let asked = c.as_slice-asked.ensures ∙ ap (λ (s : Kept). s.asked) c.self.view_is in
    let heard = c.deref.ensures.value ∙ ap (λ (s : Kept). s.heard) c.self.view_is in
    let undecided : is_some now.tx ≡ true = cc in
    let has : has_site from now.asked ≡ true = ap (has_site from) (sym {A = List SiteId} asked) ∙ (cc) in
    let all = ap (λ sites. list_all (λ site. has_site site (from ∷ sites)) now.asked) (sym {A = List SiteId} heard) ∙ ap (λ sites. list_all (λ site. has_site site (from ∷ c.deref.result.now)) sites) (sym {A = List SiteId} asked) ∙ sym c.are_heard_with.ensures ∙ c.if-are_heard_with.true in
    subst (λ answer. Commit ≡ verdict_of (Some now) from answer) (sym c.in-Yes.is) (sym (yes_verdict now from true undecided has all))

pub returns-in-Yes-2 : goal.returns-in-Yes-2
returns-in-Yes-2 c =
    let now = c.args.self.now in
    let from = c.args.from in
    let asked = c.as_slice-asked.ensures ∙ ap (λ (s : Kept). s.asked) c.self.view_is in
    let heard = c.deref.ensures.value ∙ ap (λ (s : Kept). s.heard) c.self.view_is in
    let undecided : is_some now.tx ≡ true = cc in
    let has : has_site from now.asked ≡ true = ap (has_site from) (sym {A = List SiteId} asked) ∙ (cc) in
    let all = ap (λ sites. list_all (λ site. has_site site (from ∷ sites)) now.asked) (sym {A = List SiteId} heard) ∙ ap (λ sites. list_all (λ site. has_site site (from ∷ c.deref.result.now)) sites) (sym {A = List SiteId} asked) ∙ sym c.are_heard_with.ensures ∙ c.if-are_heard_with.false in
    subst (λ answer. Waiting ≡ verdict_of (Some now) from answer) (sym c.in-Yes.is) (sym (yes_verdict now from false undecided has all))
