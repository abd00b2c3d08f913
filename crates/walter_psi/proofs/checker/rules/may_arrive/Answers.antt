use Rattle.std.proofs.Common.{◌≡◌, ◌∙◌, sym, subst, List, refl, true}
use Rattle.std.specs.Prelude.{Contains, All}
use Rattle.walter_base.specs.declared.names.Tid.{Tid}
use Rattle.walter_base.specs.declared.names.SiteId.{SiteId}
use Rattle.walter_base.specs.Names.{same_site}
use Rattle.walter_base.proofs.NameTests.{same_site_refl}
use Rattle.walter_psi.specs.Histories.{snapshot}
use Rattle.walter_psi.proofs.checker.rules.may_arrive.Goals as goal

pub returns : goal.returns
returns c =
    let steps = c.args.steps.now in
    let stands = c.deref.ensures.value ∙ c.in_ok-log.ensures in
    let seen = c.deref-2.ensures.value ∙ c.in_ok-snapshot.ensures in
    let others = c.deref-3.ensures.value ∙ c.in_ok-log.ensures in
    let causal = c.are_all_among-causal.ensures in (
      λ is. record {
        committed = c.if-not-is_committed.ensures.0 refl;
        elsewhere = λ same. let test = c.if-eq.ensures in let own = subst (λ (site : SiteId). same_site site c.args.x.site ≡ true) (sym same) (same_site_refl c.args.x.site) in cc;
        new = λ there. let found = c.if-is_among.ensures.1 (subst (λ (all : List Tid). Contains all c.args.x) (sym stands) there) in cc;
        causal = subst (λ (all : List Tid). All (λ y. Contains all y) (snapshot c.args.x steps)) others
            (subst (λ (all : List Tid). All (λ y. Contains c.deref-3.result.now y) all) seen (causal.0 is));
      },
      λ legal. causal.1 (subst (λ (all : List Tid). All (λ y. Contains c.deref-3.result.now y) all) (sym seen)
          (subst (λ (all : List Tid). All (λ y. Contains all y) (snapshot c.args.x steps)) (sym others) legal.causal)),
    )
