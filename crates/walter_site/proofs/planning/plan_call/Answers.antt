use Rattle.std.proofs.Common.{◌≡◌, Ok, ap, sym, ◌∙◌, rules}
use Rattle.std.proofs.lemmas.Result.{IfOk-weaker}
use Rattle.walter_base.specs.declared.message.Request.TheVariants.{Commit}
use Rattle.walter_rules.specs.Calls.{call_rule}
use Rattle.walter_rules.specs.Knowledge.{session_of}
use Rattle.walter_tables.specs.Sites.{site_of, catalog_of}
use Rattle.walter_tables.proofs.Called.{same_session}
use Rattle.walter_site.proofs.planning.plan_call.Goals as goal

pub returns-in-Ok-Commit-clause-rule : goal.returns-in-Ok-Commit-clause-rule
returns-in-Ok-Commit-clause-rule c =
    let t = c.args.tables.now in
    let client = c.args.client in
    let call : c.args.call.now ≡ Ok Commit = search rules in
    IfOk-weaker c.plan_commit.result _ _
    (λ p rule K S. rule K S
    ∙ ap (call_rule (catalog_of t) (site_of t) K (Ok Commit)) (same_session t K S client)
    ∙ ap (λ asked. call_rule (catalog_of t) (site_of t) K asked (session_of K client)) (sym call))
    c.plan_commit.ensures.rule
