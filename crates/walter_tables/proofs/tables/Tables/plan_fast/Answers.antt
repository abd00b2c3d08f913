use Rattle.std.proofs.Common.{◌≡◌, ◌∙◌, sym, subst}
use Rattle.std.proofs.lemmas.Result.{IfOk-weaker}
use Rattle.walter_base.specs.declared.message.Record.TheVariants.{Own}
use Rattle.walter_base.specs.declared.message.Reply.TheVariants.{Committed}
use Rattle.walter_base.specs.declared.transaction.Tx.{Tx}
use Rattle.walter_rules.specs.declared.outcome.Outcome.TheVariants.{Replied}
use Rattle.walter_rules.specs.Calls.{commits_fast, own_version}
use Rattle.walter_rules.specs.Knowledge.{Knowledge}
use Rattle.walter_rules.specs.Records.{CanFollow}
use Rattle.walter_rules.specs.Sessions.{tx_of}
use Rattle.walter_session.specs.Sessions.{session_view}
use Rattle.walter_tables.specs.declared.plan.Planned.{Planned}
use Rattle.walter_tables.specs.Planning.{expected_of, commits_own}
use Rattle.walter_tables.specs.Sites.{values_of, site_of, catalog_of, Stands}
use Rattle.walter_tables.proofs.Committed.{fast_tx, fast_follows}
use Rattle.walter_tables.proofs.tables.Tables.plan_fast.Goals as goal

pub returns-clause-rule : goal.returns-clause-rule
unfolding values_of site_of catalog_of
returns-clause-rule c =
    let now = c.args.self.now in
    let s = session_view c.args.session.now in
    let seq = c.in_ok-seq.seq in
    let mine : Tx = c.in_ok-tx.tx in
    let outcome = Replied (Committed (own_version now.site seq)) in
    let is : mine ≡ tx_of s = c.in_ok-tx.ensures ∙ fast_tx s c.requires.fast in
    IfOk-weaker c.plan_own.result
    (λ (p : Planned). (K : Knowledge) → Stands now K → CanFollow now.catalog now.site K (Own seq mine)
    → expected_of p ≡ commits_own now.catalog now.site K seq mine outcome)
    (λ (p : Planned). (K : Knowledge) → Stands now K → expected_of p ≡ commits_fast now.catalog now.site K s)
    (λ p told K S.
    let f = fast_follows (values_of now) K S c.requires.up s c.requires.open c.requires.fast seq c.in_ok-seq.ensures
    now.spread_site in
    told K S (subst (λ (x : Tx). CanFollow now.catalog now.site K (Own seq x)) (sym is) f)
    ∙ (λ t. commits_own now.catalog now.site K (f.next t) (is t) (Replied (Committed (own_version now.site (f.next t))))))
    c.plan_own.ensures.rule
