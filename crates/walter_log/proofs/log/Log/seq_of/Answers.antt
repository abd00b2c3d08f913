use Rattle.std.proofs.Common.{◌≡◌, ◌∙◌, true, false, not, nat_eq, ap, sym}
use Rattle.std.proofs.lemmas.Bool.{eq-eqb, not-true}
use Rattle.walter_base.specs.declared.names.SiteId.{SiteId}
use Rattle.walter_log.specs.Logged.{Logged}
use Rattle.walter_log.proofs.Numbered.{not_own}
use Rattle.walter_log.proofs.log.Log.seq_of.Goals as goal

pub returns-then-ne : goal.returns-then-ne
returns-then-ne c =
    let site : c.self.inside.site ≡ c.args.self.now.site = ap (λ (v : Logged). v.site) c.self.view_is in
    let differs : nat_eq c.args.tid.site.0 c.self.inside.site.0 ≡ false =
    not-true (nat_eq c.args.tid.site.0 c.self.inside.site.0) (sym c.ne.ensures ∙ c.if-ne.true) in
    sym (not_own c.args.self.now.site c.args.tid c.args.self.now.log
    (λ e. let same = eq-eqb c.args.tid.site.0 c.self.inside.site.0 (ap (λ (s : SiteId). s.0) (e ∙ sym site)) in
    let clash : true ≡ false = sym same ∙ differs in cc))
