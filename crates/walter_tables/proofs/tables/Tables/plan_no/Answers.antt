use Rattle.std.proofs.Common.{◌≡◌, ◌∙◌, List, Option, ap, sym}
use Rattle.std.proofs.lemmas.Result.{IfOk-weaker}
use Rattle.walter_base.specs.declared.names.SiteId.{SiteId}
use Rattle.walter_base.specs.declared.transaction.Tx.{Tx}
use Rattle.walter_rules.specs.Deliveries.{votes_by, ends_slow}
use Rattle.walter_rules.specs.Knowledge.{Knowledge}
use Rattle.walter_rules.specs.Slow.{Undecided}
use Rattle.walter_slow.specs.Kept.{Kept, verdict_of}
use Rattle.walter_tables.specs.declared.plan.Planned.{Planned}
use Rattle.walter_tables.specs.Planning.{expected_of}
use Rattle.walter_tables.specs.Sites.{values_of, site_of, catalog_of, Stands}
use Rattle.walter_tables.proofs.Voted.{ends}
use Rattle.walter_tables.proofs.tables.Tables.plan_no.Goals as goal

pub returns-in-Abort-clause-rule : goal.returns-in-Abort-clause-rule
unfolding values_of site_of catalog_of
returns-in-Abort-clause-rule c =
    let now = c.args.self.now in
    let n = c.args.slow in
    let p = c.args.from in
    let answer = c.args.answer.now in
    IfOk-weaker c.plan_end.result
    (λ (planned : Planned). (K : Knowledge) → (tx : Tx) → (asked : List SiteId) → Stands now K → K.slow n ≡ Undecided tx asked
    → expected_of planned ≡ ends_slow now.catalog now.site n asked)
    (λ (planned : Planned). (K : Knowledge) → Stands now K
    → expected_of planned ≡ votes_by now.catalog now.site K p n answer (K.slow n))
    (λ planned told K S.
    let verdict = ap (λ (kept : Option Kept). verdict_of kept p answer) (sym (S.slow.kept n)) ∙ sym c.verdict.ensures ∙ c.in-Abort.is in
    let e = ends now.catalog now.site K p n answer c.in-Abort.field-0 (K.slow n) c.requires.no verdict in
    told K e.tx e.asked S e.undecided ∙ sym e.rule)
    c.plan_end.ensures.rule
