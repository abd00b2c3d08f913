use Rattle.std.proofs.Common.{◌≡◌, ◌∙◌, List, Some, ap, sym, subst}
use Rattle.std.specs.Prelude.{option_and_then}
use Rattle.std.proofs.lemmas.Option.{same_Some}
use Rattle.std.proofs.lemmas.Result.{IfOk-weaker}
use Rattle.walter_base.specs.declared.message.Record.TheVariants.{Own}
use Rattle.walter_base.specs.declared.names.SiteId.{SiteId}
use Rattle.walter_base.specs.declared.transaction.Tx.{Tx}
use Rattle.walter_rules.specs.declared.outcome.Outcome.TheVariants.{Taken}
use Rattle.walter_rules.specs.Calls.{next_seq}
use Rattle.walter_rules.specs.Knowledge.{Knowledge}
use Rattle.walter_rules.specs.Records.{CanFollow}
use Rattle.walter_rules.specs.Slow.{Slow, Undecided}
use Rattle.walter_slow.specs.Kept.{Kept, kept_of}
use Rattle.walter_tables.specs.declared.plan.Planned.{Planned}
use Rattle.walter_tables.specs.Planning.{expected_of, commits_own}
use Rattle.walter_tables.specs.Sites.{values_of, site_of, catalog_of, Stands}
use Rattle.walter_tables.proofs.Voted.{decided_follows}
use Rattle.walter_tables.proofs.tables.Tables.plan_decided.Goals as goal

pub returns-clause-rule : goal.returns-clause-rule
unfolding values_of site_of catalog_of
returns-clause-rule c =
    let now = c.args.self.now in
    let n = c.args.slow in
    let seq = c.in_ok-seq.seq in
    let mine : Tx = c.in_ok-clone.field-0 in
    IfOk-weaker c.plan_own.result
    (λ (p : Planned). (K : Knowledge) → Stands now K → CanFollow now.catalog now.site K (Own seq mine)
    → expected_of p ≡ commits_own now.catalog now.site K seq mine Taken)
    (λ (p : Planned). (K : Knowledge) → (tx : Tx) → (asked : List SiteId) → Stands now K → K.slow n ≡ Undecided tx asked
    → expected_of p ≡ commits_own now.catalog now.site K (next_seq now.site K) tx Taken)
    (λ p told K tx asked S undecided.
    let kept = S.slow.kept n
    ∙ ap (λ (g : Slow). kept_of g (K.said_yes n) (K.said_no n) (K.said_released n)) undecided in
    let was = c.in-Some.ensures in
    let same = c.in_ok-clone.ensures in
    let known = ap (option_and_then (λ (k : Kept). k.tx)) kept in
    let there : Some mine ≡ Some tx = cc in
    let one : mine ≡ tx = same_Some mine tx there in
    let f = decided_follows (values_of now) K S c.requires.up n seq tx asked undecided c.in_ok-seq.ensures now.spread_site in
    told K S (subst (λ (x : Tx). CanFollow now.catalog now.site K (Own seq x)) (sym one) f)
    ∙ (λ t. commits_own now.catalog now.site K (f.next t) (one t) Taken))
    c.plan_own.ensures.rule
