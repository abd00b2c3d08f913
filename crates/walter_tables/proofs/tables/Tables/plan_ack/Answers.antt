use Rattle.std.proofs.Common.{◌≡◌, ◌<◌, ℕ, true, nat_lt, if◌then◌else◌, ap, sym, ◌∙◌, arith, rules}
use Rattle.std.specs.Prelude.{max}
use Rattle.std.proofs.lemmas.Bool.{ltb-true}
use Rattle.walter_base.specs.declared.names.SiteId.{SiteId}
use Rattle.walter_base.proofs.NameTests.{both, same_site_refl}
use Rattle.walter_rules.specs.Deliveries.{is_news, if_marks, if_acknowledged, takes}
use Rattle.walter_rules.specs.Knowledge.{Knowledge}
use Rattle.walter_rules.specs.Learning.{risen}
use Rattle.walter_rules.specs.Marks.{visible_mark}
use Rattle.walter_tables.specs.Sites.{values_of, site_of, catalog_of}
use Rattle.walter_tables.proofs.tables.Tables.plan_ack.Goals as goal

-- a greater number of a site is what it said then
risen_self : (j : SiteId) (n : ℕ) (said : SiteId → ℕ) → said j < n → n ≡ risen j n said j
risen_self j n said more =
    let most : max (said j) n ≡ n = omega (arith, more) in
    sym (ap (λ b. if b then max (said j) n else said j) (same_site_refl j) ∙ most)

pub returns-clause-rule : goal.returns-clause-rule
unfolding values_of site_of catalog_of
returns-clause-rule c = λ K S.
    let self = c.args.self.now in
    let from = c.args.from in
    let got = c.args.got in
    let K2 : Knowledge = record K { acknowledged = risen from got K.acknowledged } in
    let said : c.acknowledged-said.result ≡ K.acknowledged from = c.acknowledged-said.ensures ∙ S.durable.acknowledged from in
    let heard : c.is_news.result ≡ true = search rules in
    let news : is_news self.site K (K.acknowledged from) got ≡ true =
    sym (c.is_news.ensures K S ∙ ap (λ n. is_news self.site K n got) said) ∙ heard in
    let more : K.acknowledged from < got = ltb-true (K.acknowledged from) got (both _ _ news).1 in
    let before = c.durable_mark-before.ensures.mark K S in
    let now = c.durable_mark_with_acknowledged-now.ensures.mark K S news in
    let seen : c.visible_mark.result ≡ visible_mark self.catalog self.site K2 = c.visible_mark.ensures.mark K S in
    let sends = c.in_ok-sends.ensures K got S said (risen_self from got K.acknowledged more) before now in
    c.takes.ensures.plan
    ∙ ap (λ r. takes r c.in_ok-sends.sends) c.in_ok-rec.ensures
    ∙ (λ t. takes (if_marks (nat_lt (before t) (now t)) (now t) (seen t)) (sends t))
    ∙ sym (ap (λ b. if_acknowledged b self.catalog self.site K from got) news)
