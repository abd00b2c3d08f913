use Rattle.std.proofs.Common.{◌≡◌, ◌∙◌, ap, subst}
use Rattle.walter_base.specs.declared.names.SiteId.{SiteId}
use Rattle.walter_base.specs.Vectors.{entry_at}
use Rattle.walter_rules.specs.Deliveries.{covers}
use Rattle.walter_tables.specs.Sites.{values_of, site_of, catalog_of}
use Rattle.walter_tables.proofs.FitsTold.{one_test, covers_there, covers_back}
use Rattle.walter_tables.proofs.tables.Tables.has_received.Goals as goal

pub returns : goal.returns
unfolding values_of site_of catalog_of
returns c = λ K S.
    let got = c.got.result.now in
    let start = c.as_slice.result.now in
    let received : (k : SiteId) → entry_at got k ≡ K.got k =
    λ k. ap (λ v. entry_at v k) c.got.ensures.got ∙ S.spread.received k in
    subst (λ numbers. c.covers.result ≡ covers K.got numbers) c.as_slice.ensures.same
    (one_test _ _
    (λ is. covers_there got K.got received start (c.covers.ensures.0 is))
    (λ is. c.covers.ensures.1 (covers_back got K.got received start is)))
