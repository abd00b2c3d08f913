use Rattle.std.proofs.Common.{◌≡◌, ◌∙◌, List, Option, ap, sym}
use Rattle.std.proofs.lemmas.Result.{IfOk-weaker}
use Rattle.walter_base.specs.declared.names.SiteId.{SiteId}
use Rattle.walter_base.specs.declared.packet.Answer.TheVariants.{Yes}
use Rattle.walter_base.specs.declared.transaction.Tx.{Tx}
use Rattle.walter_rules.specs.declared.outcome.Outcome.TheVariants.{Taken}
use Rattle.walter_rules.specs.Calls.{next_seq}
use Rattle.walter_rules.specs.Deliveries.{votes_by}
use Rattle.walter_rules.specs.Knowledge.{Knowledge}
use Rattle.walter_rules.specs.Slow.{Undecided}
use Rattle.walter_slow.specs.Kept.{Kept, waits_for, verdict_of}
use Rattle.walter_tables.specs.declared.plan.Planned.{Planned}
use Rattle.walter_tables.specs.Planning.{expected_of, commits_own}
use Rattle.walter_tables.specs.Sites.{values_of, site_of, catalog_of, Stands}
use Rattle.walter_tables.proofs.Voted.{missing_is, last_rule}
use Rattle.walter_tables.proofs.tables.Tables.plan_yes.Goals as goal

pub returns-in-Commit-clause-rule : goal.returns-in-Commit-clause-rule
unfolding values_of site_of catalog_of
returns-in-Commit-clause-rule c =
    let now = c.args.self.now in
    let n = c.args.slow in
    let p = c.args.from in
    IfOk-weaker c.plan_decided.result
    (λ (planned : Planned). (K : Knowledge) → (tx : Tx) → (asked : List SiteId) → Stands now K → K.slow n ≡ Undecided tx asked
    → expected_of planned ≡ commits_own now.catalog now.site K (next_seq now.site K) tx Taken)
    (λ (planned : Planned). (K : Knowledge) → Stands now K
    → expected_of planned ≡ votes_by now.catalog now.site K p n Yes (K.slow n))
    (λ planned told K S.
    let waits = ap (λ (kept : Option Kept). waits_for kept p) (sym (S.slow.kept n)) ∙ sym c.waits.ensures ∙ c.if-not-waits.false in
    let verdict = ap (λ (kept : Option Kept). verdict_of kept p Yes) (sym (S.slow.kept n)) ∙ sym c.verdict.ensures ∙ c.in-Commit.is in
    let m = missing_is now.catalog now.site K p n (K.slow n) waits in
    told K m.tx m.asked S m.undecided
    ∙ sym (last_rule now.catalog now.site K p n (K.slow n) m verdict))
    c.plan_decided.ensures.rule
