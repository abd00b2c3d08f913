-- The least of what peers called visible, one site after another.
use Rattle.std.proofs.Common.{◌≡◌, ◌≢◌, ◌+◌, ◌<◌, ◌≤◌, ℕ, List, [], ◌∷◌, min, inl, inr, subst, arith}
use Rattle.std.proofs.lemmas.Bool.{cases_lt, cases_eq}
use Rattle.std.proofs.lemmas.List.{length-append}
use Rattle.walter_base.specs.declared.names.SiteId.{SiteId}
use Rattle.walter_base.specs.Vectors.{entry_at}
use Rattle.walter_durable.specs.Marks.{Holdings, own, site_at, AreVisible, IsGreatest, IsPossible, with_own}

-- each peer before a site has called so many own commits visible
abbrev pub ArePassed : Holdings → ℕ → ℕ → Type 0
ArePassed H site m = (peer : ℕ) → peer < site → peer ≢ H.site.0 → m ≤ entry_at H.visible (site_at peer)

-- it is the greatest such number
pub record IsLeast (H : Holdings) (site least : ℕ) : Type 0 where
  pub within : least ≤ own H
  pub each : ArePassed H site least
  pub most : (k : ℕ) → k ≤ own H → ArePassed H site k → k ≤ least

passed_before : (H : Holdings) (site k : ℕ) → ArePassed H (site + 1) k → ArePassed H site k
passed_before H site k passed peer lt apart = passed peer (omega (arith, lt)) apart

pub least_here : (H : Holdings) (site least : ℕ) → site ≡ H.site.0 → IsLeast H site least → IsLeast H (site + 1) least
least_here H site least here is = record {
  within = is.within;
  each = λ peer lt apart. elim (cases_lt peer site) [
    | inl before ↦ is.each peer before apart
    | inr at ↦ absurd (apart (let same : peer ≡ H.site.0 = omega (arith, lt, at, here) in same))
  ];
  most = λ k le passed. is.most k le (passed_before H site k passed);
}

pub least_peer : (H : Holdings) (site least : ℕ) → site ≢ H.site.0 → IsLeast H site least
    → IsLeast H (site + 1) (min least (entry_at H.visible (site_at site)))
least_peer H site least other is = record {
  within = omega (arith, is.within);
  each = λ peer lt apart. elim (cases_lt peer site) [
    | inl before ↦ omega (arith, is.each peer before apart)
    | inr at ↦
        let same : site ≡ peer = omega (arith, lt, at) in
        subst (λ k. min least (entry_at H.visible (site_at site)) ≤ entry_at H.visible (site_at k)) same (omega arith)
  ];
  most = λ k le passed.
      let before = is.most k le (passed_before H site k passed) in
      let last = passed site (omega arith) other in
      omega (arith, before, last);
}

-- what is acknowledged, and what is journaled, doesn't touch it
pub visible_beside : (H : Holdings) (acknowledged : List ℕ) (durable visible m : ℕ) → IsGreatest (AreVisible H) m
    → IsGreatest (AreVisible (record H {
      acknowledged = acknowledged;
      durable_floor = durable;
      visible_floor = visible;
    })) m
visible_beside H acknowledged durable visible m is = record {
  one = record { within = is.one.within; each = is.one.each };
  most = λ k seen. is.most k (record { within = seen.within; each = seen.each });
}

module _ (H : Holdings) (preferred : List SiteId) where
  one_more : own (with_own preferred H) ≡ own H + 1
  one_more = length-append H.preferred (preferred ∷ [])

  -- without peers one more own commit is visible at once
  pub greatest_alone : H.sites ≡ 1 → H.site.0 < H.sites → IsGreatest (AreVisible (with_own preferred H)) (own H + 1)
  greatest_alone one here = record {
    one = record {
      within = omega (arith, one_more);
      each = λ peer lt apart. absurd (apart (let same : peer ≡ H.site.0 = omega (arith, lt, one, here) in same));
    };
    most = λ k seen. let within = seen.within in omega (arith, within, one_more);
  }

  -- with peers it isn't
  pub greatest_among : (m : ℕ) → IsPossible H → H.sites ≢ 1 → IsGreatest (AreVisible H) m
      → IsGreatest (AreVisible (with_own preferred H)) m
  greatest_among m possible several is = record {
    one = record { within = let within = is.one.within in omega (arith, within, one_more); each = is.one.each };
    most = λ k seen.
        let here = possible.here in
        let within : k ≤ own H = elim (cases_eq H.site.0 0) [
          | inl first ↦
              let called = seen.each 1 (omega (arith, several, here)) (λ same. absurd (omega (arith, same, first))) in
              let few = possible.seen 1 in
              omega (arith, called, few)
          | inr later ↦
              let called = seen.each 0 (omega (arith, several, here)) (λ same. absurd (omega (arith, same, later))) in
              let few = possible.seen 0 in
              omega (arith, called, few)
        ] in
        is.most k (record { within = within; each = seen.each });
  }
